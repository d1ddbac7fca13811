-- `fill` puts an item into an empty place.
use Rattle.am_block_row.proofs.Steps.{◌≡◌, refl, sym, ap, subst, ◌∙◌, List, [], ◌∷◌, ◌++◌, ℕ, ◌+◌, ◌*◌, ◌<◌, ◌^◌, length, set, get_or, length-set, Ura, SProp}
use Rattle.am_block_row.proofs.Steps.{ent, never, id⊢, Lft, GName, Share, ftrue, flft, fobs, fbor, Fn, named, w64, inst_fn, Val, vptr, vint, vunit, Env, Calls}
use Rattle.am_block_row.proofs.Steps.{Loops, WpFn, Tables, Logic, fact, WpFn-mono, Item, ⋆, ‵, ◌⊛◌, at_ret, ◌$◌, ◌∵◌, !, qed, by, move, keep, use1, use2, split}
use Rattle.am_block_row.proofs.Steps.{join, rewrite, fsplit, fsplit3, fjoin, fjoin3, feq_i, feq_l, flt_i, flt_l, suffices, frame, done, whole, sub, init, stop}
use Rattle.am_block_row.proofs.Steps.{fld, unit_lit, of_opd, assigns_last, first, blocks, exec, returns, enter, alloc_all, pass_all, free_all, look_at, get}
use Rattle.am_block_row.proofs.Steps.{get_in, through, sets, is, env, Borrowed, yes, no, owns, mem, layout, Ptr, block_ptr, ptr_val, in_a_block, MutBor, MutRef}
use Rattle.am_block_row.proofs.Steps.{RefMutOf, unit, usize, plain, nothing, opens, closes, spared, Clauses, Ended, closing, on_entry, Meets, triple_of}
use Rattle.am_block_row.proofs.Steps.{entered, run_framed, says, needs, Stays, stay_dropped, stay_ref, walk_of, ends_at, Goes-dropped, Goes-ref, walk_Meets}
use Rattle.am_block_row.proofs.Steps.{Some, None, El, R, args, elτ, as_written, Good, word, word-Good, after}
use contract.Running.{tables, tables_of}
use Rattle.am_block_row.specs.Ownership.{place_at, place, places, row_owned}
use Rattle.am_block_row.specs.contracts.Spot as spot_type
use Rattle.am_block_row.proofs.Parts.{Rows, Spots, word_had, value_in, tells}
use Rattle.am_block_row.proofs.Memory.{bytes, Place, Others, place_out, place_in}
use Rattle.am_block_row.specs.contracts.Row.fill.Key.{name as #self}
use Rattle.am_block_row.proofs.Row.fill.Statement as stated
use Rattle.am_block_row.proofs.Row.fill.Code as code

module _ (E : El) where
  abbrev function : Fn
  function = inst_fn (args E) code.function

  abbrev ended : Ended
  ended = record {
    signature = record {
      lifetimes = 1;
      outlives = [];
      params = RefMutOf (0 ∷ []) tt (plain (λ _. Rows E)) (λ _. tt) ∷ plain (λ _. Spots) ∷ plain (λ _. usize) ∷ plain (λ _. R E) ∷ [];
      result = plain (λ _. unit);
    };
    kept = (yes, (no, (no, (no, tt))));
  }

  abbrev stayed : Stays ended.signature.params ended.kept
  stayed = (
    stay_ref (0 ∷ []) tt (plain (λ _. Rows E)),
    (
      stay_dropped (plain (λ _. Spots)) no,
      (stay_dropped (plain (λ _. usize)) no, (stay_dropped (plain (λ _. R E)) no, tt)),
    ),
  )

  abbrev Asks : (Rows E).Denot → (Spots).Denot → ℕ → Type 0
  Asks row spot index = (spot.ptr ≡ place_at (R E) row.at index) × (index < length row.places) × (get_or row.places index None ≡ None)

  abbrev Gives : (Rows E).Denot → ℕ → (R E).Denot → (Rows E).Denot → Type 0
  Gives row index item new = (new.at ≡ row.at) × (new.places ≡ set row.places index (Some item))

  abbrev spec : {M : Type 1} {𝓤 : Ura M} (𝓛 : Logic 𝓤) → Clauses 𝓤 ended
  spec {𝓤 = 𝓤} 𝓛 κs a = record {
    ghost = Unit {0};
    requires = λ _. fact 𝓤 (Asks a.0.now a.1.0 a.1.1.0);
    ensures = λ _ r w. fact 𝓤 (Gives a.0.now a.1.1.0 a.1.1.1.0 w.0.now);
  }

module _ (E : El) {M : Type 1} {𝓤 : Ura M} (𝓛 : Logic 𝓤) (C : Calls 𝓤 𝓛.H) (Λ : Loops 𝓤 𝓛.H) (κ : Lft) (q : Share) (rb ro : ℕ) (γ : GName)
    (row : (Rows E).Denot) (spot : (Spots).Denot) (index : ℕ) (item : (R E).Denot) (us0 us1 us2 us3 : List Val) where
  open 𝓛 use {H, A}

  abbrev self : MutBor (Rows E).Denot
  self = record { ref_ptr = (rb, ro); ghost_name = γ; now = row }

  abbrev bound : (walk_of 𝓛 (ended E) (stayed E) (spec E 𝓛)).Ghost
  bound = (((κ, tt), (q, tt), tt, (self, (spot, (index, (item, tt)))), (us0, (us1, (us2, (us3, tt))))), tt)

  abbrev Post : Val → SProp 𝓤
  Post = (walk_of 𝓛 (ended E) (stayed E) (spec E 𝓛)).post bound

  exits : us0 ≡ vptr rb ro ∷ [] → (new : (Rows E).Denot) → Gives E row index item new
      → ent 𝓤 (⋆ 𝓛 (‵ (fobs γ ((Rows E).coded.code new)) ∷ ‵ (fbor κ (Borrowed (mem (Rows E)) rb ro γ)) ∷ ‵ (flft κ q) ∷ ‵
      ((unit).own_val tt (vunit ∷ [])) ∷ [])) (Post vunit)
  exits passed new gives =
      qed 𝓛 (‵ (fobs γ ((Rows E).coded.code new)) ∷ ‵ (fbor κ (Borrowed (mem (Rows E)) rb ro γ)) ∷ ‵ (flft κ q) ∷ ‵ ((unit).own_val tt (vunit ∷ [])) ∷ []) ∵
      suffices ! _ (ends_at 𝓛 (ended E) (stayed E) (spec E 𝓛) bound vunit tt (new, (tt, (tt, (tt, tt)))) (tt, (tt, (tt, (tt, tt))))) $ says ! gives $
      nothing ! $ move ! (3 ∷ 0 ∷ []) $ join ! $ frame ! $ feq_i ! (List Val) us0 (vptr rb ro ∷ []) passed $ fjoin3 ! $
      nothing ! $ nothing ! $ fjoin ! $ nothing ! $ fjoin ! $ nothing ! $ fjoin ! $ move ! (1 ∷ 0 ∷ []) $ fjoin ! $ done !

  abbrev Had : Val → List (Item 𝓤)
  Had v = ‵ (fobs γ ((Rows E).coded.code row)) ∷ ‵ (fbor κ (Borrowed (mem (Rows E)) rb ro γ)) ∷ ‵ (flft κ q) ∷ ‵ ((R E).own_val item (v ∷ [])) ∷ []

  walk : us0 ≡ vptr rb ro ∷ [] → Asks E row spot index → index < 2 ^ 64 → (v : Val) → Good (layout (R E)) v
      → ent 𝓤 (⋆ 𝓛 (Had v)) (WpFn 𝓤 H C Λ (function E) (vptr rb ro ∷ word spot.ptr ∷ vint w64 index ∷ v ∷ []) Post)
  walk passed asked small_index v good =
      let within = asked.1 in
      let new : (Rows E).Denot = record { mark = row.mark; at = row.at; places = set row.places index (Some item) } in
      qed 𝓛 (Had v) ∵ enter ! C Λ (function E) (vptr rb ro ∷ word spot.ptr ∷ vint w64 index ∷ v ∷ []) _ $
      alloc_all ! (λ l. pass_all ! refl ((tt, tt), (word-Good (spot_type.the_type).name spot.ptr, ((tt, record { fits = small_index }), (good, tt)))) $
      let En : Env 𝓤 H = env (function E).locals l in
      opens ! tt (Rows E) {h = row} rb ro (λ vs. move ! (1 ∷ []) $ fsplit ! $ move ! (1 ∷ []) $
      in_a_block ! row.at (λ p. row_owned (R E) p row.places) (id⊢ 𝓤 (never 𝓤)) (λ b o e. fsplit ! $ flt_l ! (λ small.
      let at : ℕ = index * bytes E + o in
      let here : spot.ptr ≡ block_ptr b at = asked.0 ∙ ap (λ (p : Ptr). place_at (R E) p index) e in
      sets ! (is ! (of_opd ! (get_in ! (fld ! refl (stop !)) (sub ! 0 refl (whole !)))) (ap ptr_val here)) refl (tt, tt) $
      use1 𝓛 (‵ (place (R E) b at (get_or row.places index None)) ⊛ ‵ (Others E 𝓛 b o row.places index)) (place_out E 𝓛 b row.places index o at within refl) $
      split ! $
      rewrite ! 0 (λ (c : Place E). ‵ (place (R E) b at c)) asked.2 refl $ as_written ! (elτ E) b at $
      -- [the room; the other places; the mark; its cell; the open borrow, in three entries; what the item owns]
      first ! $ blocks ! $ sets ! (of_opd ! (get ! refl)) refl good $ assigns_last ! (of_opd ! (get ! refl)) (through ! refl (stop !)) (init ! 0 refl good) $
      exec ! C Λ En (after 2 (function E).body) (at_ret En Post) $ sets ! (of_opd ! (unit_lit !)) refl (tt, tt) $
      move ! (0 ∷ 7 ∷ []) $ use2 𝓛 (‵ (place (R E) b at (Some item))) (value_in E.row E.laws 𝓛 item b at v) $
      use2 𝓛 (‵ (places (R E) b o new.places)) (place_in E 𝓛 b row.places index o at within refl (Some item)) $
      flt_i ! (length new.places * bytes E) (2 ^ 63) (subst (λ k. k * bytes E < 2 ^ 63) (sym (length-set row.places index (Some item))) small) $ fjoin ! $
      rewrite ! 0 (λ (p : Ptr). ‵ (row_owned (R E) p new.places)) (sym e) refl $ move ! (1 ∷ 0 ∷ []) $ fjoin ! $ move ! (1 ∷ 0 ∷ []) $ closes ! tt (Rows E) new
      vs rb ro $
      returns ! (look_at ! 0 refl) $ free_all ! refl $ keep ! (0 ∷ 1 ∷ 2 ∷ []) $ feq_i ! (List Val) (vunit ∷ []) (vunit ∷ []) refl $ move ! (1 ∷ 2 ∷ 3 ∷ 0 ∷ [])
      $
      by ! (exits passed new (refl, refl))))))

  entry : Asks E row spot index → ent 𝓤 (on_entry 𝓛 (ended E).signature (κ, tt) (q, tt) (self, (spot, (index, (item, tt)))) (us0, (us1, (us2, (us3, tt)))))
      (WpFn 𝓤 H C Λ (function E) (us0 ++ (us1 ++ (us2 ++ (us3 ++ [])))) Post)
  entry asked =
      qed 𝓛 ((‵ (flft κ q) ⊛ ‵ ftrue) ∷ ‵ (owns (MutRef (named 0) κ (Rows E) ∷ Spots ∷ usize ∷ R E ∷ []) (self, (spot, (index, (item, tt)))) (
        us0,
        (us1, (us2, (us3, tt))),
      )) ∷ []) ∵
      split ! $ move ! (2 ∷ []) $ fsplit ! $ fsplit3 ! $ feq_l ! (λ e0. move ! (2 ∷ []) $ fsplit ! $ word_had ! spot.ptr us1
      (λ e1. fsplit ! $ fsplit ! $ feq_l ! (λ e2. flt_l ! (λ small_index.
      fsplit ! $ tells E.row E.laws ! item us3 (λ v e3 good. keep ! (2 ∷ 3 ∷ 4 ∷ 0 ∷ []) $
      by ! (subst (λ (ws : List Val × List Val × List Val × List Val). ent 𝓤 (⋆ 𝓛 (Had v))
      (WpFn 𝓤 H C Λ (function E) (ws.0 ++ (ws.1 ++ (ws.2 ++ (ws.3 ++ [])))) Post)) (λ j. (sym e0 j, sym e1 j, sym e2 j, sym e3 j))
      (walk e0 asked small_index v good)))))))

meets : (E : El) {M : Type 1} {𝓤 : Ura M} (𝓛 : Logic 𝓤) (𝓣 : Tables 𝓤 𝓛.H) →
    Meets 𝓛 (ended E).signature (WpFn 𝓤 𝓛.H 𝓣.C 𝓣.Λ (function E)) (closing 𝓛 (ended E) (spec E 𝓛))
meets E {𝓤 = 𝓤} 𝓛 𝓣 =
    walk_Meets 𝓛 (ended E) (stayed E) (
      Goes-ref 𝓛 1 0 tt (plain (λ _. Rows E)),
      (
        Goes-dropped 𝓛 1 (plain (λ _. Spots)) no (λ κs x f. refl),
        (Goes-dropped 𝓛 1 (plain (λ _. usize)) no (λ κs x f. refl), (Goes-dropped 𝓛 1 (plain (λ _. R E)) no (λ κs x f. refl), tt)),
      ),
    )
    (spec E 𝓛) (WpFn 𝓤 𝓛.H 𝓣.C 𝓣.Λ (function E)) (WpFn-mono 𝓤 𝓛.H 𝓛.laws 𝓣 (function E))
    (λ z. let a = z.0.3 in let vs = z.0.4 in needs 𝓤 (Asks E a.0.now a.1.0 a.1.1.0) _ (entry E 𝓛 𝓣.C 𝓣.Λ z.0.0.0 z.0.1.0 a.0.ref_ptr.0 a.0.ref_ptr.1
    a.0.ghost_name a.0.now a.1.0 a.1.1.0 a.1.1.1.0 vs.0 vs.1.0 vs.1.1.0 vs.1.1.1.0))

pub fill_spec : {M : Type 1} → stated.statement M
unfolding tables_of
fill_spec 𝓤 𝓛 𝓜 𝓡 wired X L y =
    let E : El = record { row = X; laws = L } in
    let 𝓣 : Tables 𝓤 𝓛.H = tables_of 𝓤 𝓛.H 𝓜 (tables 𝓤 𝓛.H 𝓜 𝓡 𝓡.env) in
    let k = #self (args E) in
    spared 𝓛 (ended E).signature (𝓡.run (𝓡.env k)) (run_framed 𝓤 𝓛.H 𝓜 𝓡 (𝓡.env k)) 1 (X.lives, tt) (closing 𝓛 (ended E) (spec E 𝓛))
    (entered 𝓤 𝓛.H (triple_of 𝓛 (ended E).signature (closing 𝓛 (ended E) (spec E 𝓛))) 𝓣.C 𝓣.Λ k (function E) (code.unfolded 𝓤 𝓛.H 𝓜 𝓡 wired (X, tt))
    (meets E 𝓛 𝓣))
    ((y.0.0, y.0.1, tt, y.0.3, y.0.4), y.1)
