-- `follow` shows the item that the row lends.
use Rattle.am_block_row.proofs.Steps.{◌≡◌, refl, sym, ap, subst, ◌∙◌, List, [], ◌∷◌, ◌++◌, ℕ, ◌+◌, ◌*◌, ◌<◌, ◌^◌, get_or, Ura, SProp, ent, never, id⊢, Lft}
use Rattle.am_block_row.proofs.Steps.{Share, ftrue, flft, Fn, named, w64, inst_fn, Val, vptr, vint, Env, Calls, Loops, WpFn, Tables, Logic, fact, WpFn-mono}
use Rattle.am_block_row.proofs.Steps.{Item, ⋆, ‵, ◌⊛◌, at_ret, ◌$◌, ◌∵◌, !, qed, by, move, keep, drop, use1, split, join, rewrite, fsplit, fjoin, feq_i, feq_l}
use Rattle.am_block_row.proofs.Steps.{flt_l, suffices, frame, done, whole, sub, stop, fld, of_opd, addr, first, blocks, exec, returns, enter, alloc_all}
use Rattle.am_block_row.proofs.Steps.{pass_all, free_all, look_at, get, get_in, through, sets, sets_last, is, env, yes, no, owns, hidden_shr, Ptr, block_ptr}
use Rattle.am_block_row.proofs.Steps.{ptr_val, in_a_block, Bor, ShrRef, RefOf, usize, plain, nothing, hide, unhide, spared, Clauses, Ended, closing, on_entry}
use Rattle.am_block_row.proofs.Steps.{Meets, triple_of, entered, run_framed, says, needs, Stays, stay_dropped, walk_of, ends_at, Goes-dropped, walk_Meets, Some}
use Rattle.am_block_row.proofs.Steps.{None, El, R, args, el_x, word, word-Good, after}
use contract.Running.{tables, tables_of}
use Rattle.am_block_row.specs.Places.{IsFilled}
use Rattle.am_block_row.specs.Ownership.{place_at, place_lent, row_lent}
use Rattle.am_block_row.specs.contracts.Spot as spot_type
use Rattle.am_block_row.proofs.Parts.{Rows, Spots, word_had}
use Rattle.am_block_row.proofs.Memory.{bytes, Place, filled_within, place_seen}
use Rattle.am_block_row.specs.contracts.Row.follow.Key.{name as #self}
use Rattle.am_block_row.proofs.Row.follow.Statement as stated
use Rattle.am_block_row.proofs.Row.follow.Code as code

module _ (E : El) where
  abbrev function : Fn
  function = inst_fn (args E) code.function

  abbrev ended : Ended
  ended = record {
    signature = record {
      lifetimes = 1;
      outlives = [];
      params = RefOf (0 ∷ []) tt (plain (λ _. Rows E)) (λ _. tt) ∷ plain (λ _. Spots) ∷ plain (λ _. usize) ∷ [];
      result = RefOf (0 ∷ []) tt (plain (λ _. R E)) (λ _. tt);
    };
    kept = (yes, (no, (no, tt)));
  }

  abbrev stayed : Stays ended.signature.params ended.kept
  stayed = (
    stay_dropped (RefOf (0 ∷ []) tt (plain (λ _. Rows E)) (λ _. tt)) yes,
    (
      stay_dropped (plain (λ _. Spots)) no,
      (stay_dropped (plain (λ _. usize)) no, tt),
    ),
  )

  abbrev Asks : (Rows E).Denot → (Spots).Denot → ℕ → Type 0
  Asks row spot index = (spot.ptr ≡ place_at (R E) row.at index) × IsFilled row.places index

  abbrev spec : {M : Type 1} {𝓤 : Ura M} (𝓛 : Logic 𝓤) → Clauses 𝓤 ended
  spec {𝓤 = 𝓤} 𝓛 κs a = record {
    ghost = Unit {0};
    requires = λ _. fact 𝓤 (Asks a.0.now a.1.0 a.1.1.0);
    ensures = λ _ r w. fact 𝓤 (get_or a.0.now.places a.1.1.0 None ≡ Some r.now);
  }

module _ (E : El) {M : Type 1} {𝓤 : Ura M} (𝓛 : Logic 𝓤) (C : Calls 𝓤 𝓛.H) (Λ : Loops 𝓤 𝓛.H) (κ : Lft) (q : Share) (rb ro : ℕ) (row : (Rows E).Denot)
    (spot : (Spots).Denot) (index : ℕ) (us0 us1 us2 : List Val) where
  open 𝓛 use {H, A}

  abbrev self : Bor (Rows E).Denot
  self = record { ref_ptr = (rb, ro); now = row }

  abbrev bound : (walk_of 𝓛 (ended E) (stayed E) (spec E 𝓛)).Ghost
  bound = (((κ, tt), (q, tt), tt, (self, (spot, (index, tt))), (us0, (us1, (us2, tt)))), tt)

  abbrev Post : Val → SProp 𝓤
  Post = (walk_of 𝓛 (ended E) (stayed E) (spec E 𝓛)).post bound

  exits : (r : Bor (el_x E)) (v : Val) → get_or row.places index None ≡ Some r.now →
      ent 𝓤 (⋆ 𝓛 (‵ (flft κ q) ∷ ‵ ((ShrRef (named 0) κ (R E)).own_val r (v ∷ [])) ∷ [])) (Post v)
  exits r v is_item =
      qed 𝓛 (‵ (flft κ q) ∷ ‵ ((ShrRef (named 0) κ (R E)).own_val r (v ∷ [])) ∷ []) ∵
      suffices ! _ (ends_at 𝓛 (ended E) (stayed E) (spec E 𝓛) bound v r (tt, (tt, (tt, tt))) (tt, (tt, (tt, tt)))) $ says ! is_item $
      nothing ! $ move ! (1 ∷ 0 ∷ []) $ join ! $ frame ! $ nothing ! $ nothing ! $ fjoin ! $ nothing ! $ fjoin ! $ nothing ! $ fjoin ! $ done !

  abbrev Had : List (Item 𝓤)
  Had = ‵ (hidden_shr (Rows E) κ row rb ro) ∷ ‵ (flft κ q) ∷ []

  walk : Asks E row spot index → index < 2 ^ 64 → ent 𝓤 (⋆ 𝓛 Had) (WpFn 𝓤 H C Λ (function E) (vptr rb ro ∷ word spot.ptr ∷ vint w64 index ∷ []) Post)
  walk asked small_index =
      let x = asked.1.0 in let within = filled_within row.places index x asked.1.1 in
      qed 𝓛 Had ∵ enter ! C Λ (function E) (vptr rb ro ∷ word spot.ptr ∷ vint w64 index ∷ []) _ $
      alloc_all ! (λ l. pass_all ! refl ((tt, tt), (word-Good (spot_type.the_type).name spot.ptr, ((tt, record { fits = small_index }), tt))) $
      let En : Env 𝓤 H = env (function E).locals l in
      unhide ! $ fsplit ! $ drop ! $ in_a_block ! row.at (λ p. row_lent (R E) p row.places κ) (id⊢ 𝓤 (never 𝓤)) (λ b o e. fsplit ! $ drop ! $
      let at : ℕ = index * bytes E + o in
      let here : spot.ptr ≡ block_ptr b at = asked.0 ∙ ap (λ (p : Ptr). place_at (R E) p index) e in
      sets ! (is ! (of_opd ! (get_in ! (fld ! refl (stop !)) (sub ! 0 refl (whole !)))) (ap ptr_val here)) refl (tt, tt) $
      use1 𝓛 (‵ (place_lent (R E) b at (get_or row.places index None) κ)) (place_seen E 𝓛 b κ row.places index o at within refl) $
      rewrite ! 0 (λ (c : Place E). ‵ (place_lent (R E) b at c κ)) asked.1.1 refl $ hide ! $
      first ! $ blocks ! $ sets_last ! (addr ! (through ! refl (stop !))) refl (tt, tt) $
      exec ! C Λ En (after 2 (function E).body) (at_ret En Post) $ sets ! (of_opd ! (get ! refl)) refl (tt, tt) $
      feq_i ! (List Val) (vptr b at ∷ []) (vptr b at ∷ []) refl $ fjoin ! $
      returns ! (look_at ! 0 refl) $ free_all ! refl $ keep ! (1 ∷ 0 ∷ []) $ by ! (exits (record { ref_ptr = (b, at); now = x }) (vptr b at) asked.1.1)))

  entry : Asks E row spot index → ent 𝓤 (on_entry 𝓛 (ended E).signature (κ, tt) (q, tt) (self, (spot, (index, tt))) (us0, (us1, (us2, tt))))
      (WpFn 𝓤 H C Λ (function E) (us0 ++ (us1 ++ (us2 ++ []))) Post)
  entry asked =
      qed 𝓛 ((‵ (flft κ q) ⊛ ‵ ftrue) ∷ ‵ (owns (ShrRef (named 0) κ (Rows E) ∷ Spots ∷ usize ∷ []) (self, (spot, (index, tt))) (us0, (us1, (us2, tt)))) ∷ []) ∵
      split ! $ move ! (2 ∷ []) $ fsplit ! $ fsplit ! $ feq_l ! (λ e0. move ! (1 ∷ []) $ fsplit ! $ word_had ! spot.ptr us1
      (λ e1. fsplit ! $ fsplit ! $ feq_l ! (λ e2. flt_l ! (λ small_index.
      keep ! (1 ∷ 2 ∷ []) $
      by ! (subst (λ (ws : List Val × List Val × List Val). ent 𝓤 (⋆ 𝓛 Had) (WpFn 𝓤 H C Λ (function E) (ws.0 ++ (ws.1 ++ (ws.2 ++ []))) Post))
      (λ j. (sym e0 j, sym e1 j, sym e2 j)) (walk asked small_index))))))

meets : (E : El) {M : Type 1} {𝓤 : Ura M} (𝓛 : Logic 𝓤) (𝓣 : Tables 𝓤 𝓛.H) →
    Meets 𝓛 (ended E).signature (WpFn 𝓤 𝓛.H 𝓣.C 𝓣.Λ (function E)) (closing 𝓛 (ended E) (spec E 𝓛))
meets E {𝓤 = 𝓤} 𝓛 𝓣 =
    walk_Meets 𝓛 (ended E) (stayed E) (
      Goes-dropped 𝓛 1 (RefOf (0 ∷ []) tt (plain (λ _. Rows E)) (λ _. tt)) yes (λ κs x f. refl),
      (Goes-dropped 𝓛 1 (plain (λ _. Spots)) no (λ κs x f. refl), (Goes-dropped 𝓛 1 (plain (λ _. usize)) no (λ κs x f. refl), tt)),
    )
    (spec E 𝓛) (WpFn 𝓤 𝓛.H 𝓣.C 𝓣.Λ (function E)) (WpFn-mono 𝓤 𝓛.H 𝓛.laws 𝓣 (function E))
    (λ z. let a = z.0.3 in let vs = z.0.4 in needs 𝓤 (Asks E a.0.now a.1.0 a.1.1.0) _ (entry E 𝓛 𝓣.C 𝓣.Λ z.0.0.0 z.0.1.0 a.0.ref_ptr.0 a.0.ref_ptr.1 a.0.now
    a.1.0 a.1.1.0 vs.0 vs.1.0 vs.1.1.0))

pub follow_spec : {M : Type 1} → stated.statement M
unfolding tables_of
follow_spec 𝓤 𝓛 𝓜 𝓡 wired X L y =
    let E : El = record { row = X; laws = L } in
    let 𝓣 : Tables 𝓤 𝓛.H = tables_of 𝓤 𝓛.H 𝓜 (tables 𝓤 𝓛.H 𝓜 𝓡 𝓡.env) in
    let k = #self (args E) in
    spared 𝓛 (ended E).signature (𝓡.run (𝓡.env k)) (run_framed 𝓤 𝓛.H 𝓜 𝓡 (𝓡.env k)) 1 (X.lives, tt) (closing 𝓛 (ended E) (spec E 𝓛))
    (entered 𝓤 𝓛.H (triple_of 𝓛 (ended E).signature (closing 𝓛 (ended E) (spec E 𝓛))) 𝓣.C 𝓣.Λ k (function E) (code.unfolded 𝓤 𝓛.H 𝓜 𝓡 wired (X, tt))
    (meets E 𝓛 𝓣))
    ((y.0.0, y.0.1, tt, y.0.3, y.0.4), y.1)
