-- `follow_mut` lends an item, and the row ends with what it ends as.
use Rattle.am_block_row.proofs.Steps.{◌≡◌, refl, sym, ap, subst, ◌∙◌, List, [], ◌∷◌, ◌++◌, ℕ, ◌+◌, ◌*◌, ◌<◌, ◌^◌, length, get_or, length-set, Ura, full_share}
use Rattle.am_block_row.proofs.Steps.{SProp, ent, sep, never, id⊢, Fml, Lft, GName, Share, ftrue, fsep, flft, fobs, fbor, Fn, named, w64, inst_fn, Val, vptr}
use Rattle.am_block_row.proofs.Steps.{vint, Env, Calls, Loops, WpFn, Tables, Logic, sem, fact, WpFn-mono, Item, ⋆, ‵, raw, ◌⊛◌, some, later, await, pick}
use Rattle.am_block_row.proofs.Steps.{at_ret, ◌$◌, ◌∵◌, !, qed, by, move, keep, use1, use2, split, join, group, rewrite, fsplit, fsplit3, fjoin, fjoin3, fpack}
use Rattle.am_block_row.proofs.Steps.{feq_l, flt_i, flt_l, suffices, frame, done, whole, sub, stop, fld, of_opd, addr, first, blocks, exec, returns, enter}
use Rattle.am_block_row.proofs.Steps.{alloc_all, pass_all, free_all, look_at, get, get_in, through, sets, sets_last, is, env, Borrowed, no, owns, mem, cell_at}
use Rattle.am_block_row.proofs.Steps.{Ptr, block_ptr, ptr_val, in_a_block, MutBor, MutRef, RefMutOf, usize, plain, mut_ref_to, nothing, opens, follows, Part}
use Rattle.am_block_row.proofs.Steps.{lends_Part, spared, Clauses, Ended, closing, on_entry, Meets, triple_of, entered, run_framed, says, needs, Stays}
use Rattle.am_block_row.proofs.Steps.{stay_dropped, walk_of, ends_at, Goes-dropped, Goes-spent_ref, walk_Meets, Some, None, El, R, args, el_x, word, word-Good}
use Rattle.am_block_row.proofs.Steps.{after}
use contract.Running.{tables, tables_of}
use denote.Memory.{part_of}
use Rattle.am_block_row.specs.Places.{IsFilled}
use Rattle.am_block_row.specs.Ownership.{place_at, place, places, row_owned}
use Rattle.am_block_row.specs.Lends.{with_item}
use Rattle.am_block_row.specs.contracts.Spot as spot_type
use Rattle.am_block_row.proofs.Parts.{Rows, Spots, Marks, word_had}
use Rattle.am_block_row.proofs.Memory.{bytes, Place, filled_within, Others, place_out, place_in}
use Rattle.am_block_row.specs.contracts.Row.follow_mut.Key.{name as #self}
use Rattle.am_block_row.proofs.Row.follow_mut.Statement as stated
use Rattle.am_block_row.proofs.Row.follow_mut.Code as code

module _ (E : El) where
  abbrev function : Fn
  function = inst_fn (args E) code.function

  abbrev ended : Ended
  ended = record {
    signature = record {
      lifetimes = 1;
      outlives = [];
      params = RefMutOf (0 ∷ []) tt (plain (λ _. Rows E)) (λ _. tt) ∷ plain (λ _. Spots) ∷ plain (λ _. usize) ∷ [];
      result = RefMutOf (0 ∷ []) tt (plain (λ _. R E)) (λ _. tt);
    };
    kept = (no, (no, (no, tt)));
  }

  abbrev stayed : Stays ended.signature.params ended.kept
  stayed = (stay_dropped (mut_ref_to (0 ∷ []) tt (plain (λ _. Rows E))) no, (stay_dropped (plain (λ _. Spots)) no, (stay_dropped (plain (λ _. usize)) no, tt)))

  abbrev Asks : (Rows E).Denot → (Spots).Denot → ℕ → Type 0
  Asks row spot index = (spot.ptr ≡ place_at (R E) row.at index) × IsFilled row.places index

  abbrev spec : {M : Type 1} {𝓤 : Ura M} (𝓛 : Logic 𝓤) → Clauses 𝓤 ended
  spec {𝓤 = 𝓤} 𝓛 κs a = record {
    ghost = Unit {0};
    requires = λ _. fact 𝓤 (Asks a.0.now a.1.0 a.1.1.0);
    ensures = λ _ r w. sep 𝓤 (sem 𝓛 (follows (Rows E) (R E) a.0.ghost_name r.ghost_name (with_item a.0.now a.1.1.0)))
        (fact 𝓤 (get_or a.0.now.places a.1.1.0 None ≡ Some r.now));
  }

module _ (E : El) {M : Type 1} {𝓤 : Ura M} (𝓛 : Logic 𝓤) (C : Calls 𝓤 𝓛.H) (Λ : Loops 𝓤 𝓛.H) (κ : Lft) (q : Share) (rb ro : ℕ) (γ : GName)
    (row : (Rows E).Denot) (spot : (Spots).Denot) (index : ℕ) (us0 us1 us2 : List Val) where
  open 𝓛 use {H, A}

  abbrev self : MutBor (Rows E).Denot
  self = record { ref_ptr = (rb, ro); ghost_name = γ; now = row }

  abbrev bound : (walk_of 𝓛 (ended E) (stayed E) (spec E 𝓛)).Ghost
  bound = (((κ, tt), (q, tt), tt, (self, (spot, (index, tt))), (us0, (us1, (us2, tt)))), tt)

  abbrev Post : Val → SProp 𝓤
  Post = (walk_of 𝓛 (ended E) (stayed E) (spec E 𝓛)).post bound

  abbrev new : el_x E → (Rows E).Denot
  new = with_item row index

  module _ (vs : List Val) (b o : ℕ) where
    -- the row without the item
    abbrev Rest : Fml
    Rest = fsep (Others E 𝓛 b o row.places index) (fsep ((Marks E).own_val (tt, tt) vs) (cell_at full_share (Rows E).mir vs rb ro))

    back : row.at ≡ block_ptr b o → index < length row.places → length row.places * bytes E < 2 ^ 63
        → (w : el_x E) → ent 𝓤 (sep 𝓤 (sem 𝓛 ((mem (R E)).own_at w b (index * bytes E + o))) (sem 𝓛 Rest)) (sem 𝓛 ((mem (Rows E)).own_at (new w) rb ro))
    unfolding part_of
    back e within small w =
        let long = length-set row.places index (Some w) in
        qed 𝓛 (‵ (place (R E) b (index * bytes E + o) (Some w)) ∷ ‵ Rest ∷ []) ∵ move ! (1 ∷ []) $ fsplit3 ! $ move ! (3 ∷ 0 ∷ []) $
        use2 𝓛 (‵ (places (R E) b o (new w).places)) (place_in E 𝓛 b row.places index o (index * bytes E + o) within refl (Some w)) $
        flt_i ! (length (new w).places * bytes E) (2 ^ 63) (subst (λ k. k * bytes E < 2 ^ 63) (sym long) small) $ fjoin ! $
        rewrite ! 0 (λ (p : Ptr). ‵ (row_owned (R E) p (new w).places)) (sym e) refl $ move ! (1 ∷ 0 ∷ []) $ fjoin ! $ move ! (1 ∷ 0 ∷ []) $ fjoin ! $
        fpack ! (List Val) (λ us. fsep (cell_at full_share (Rows E).mir us rb ro) ((Rows E).own_val (new w) us)) vs $ done !

  exits : (v : Val) (r : MutBor (el_x E)) → get_or row.places index None ≡ Some r.now
      → ent 𝓤 (sep 𝓤 (sem 𝓛 ((MutRef (named 0) κ (R E)).own_val r (v ∷ []))) (sep 𝓤 (A.lft κ q) (sem 𝓛 (follows (Rows E) (R E) γ r.ghost_name new)))) (Post v)
  exits v r is_item =
      qed 𝓛 (‵ ((MutRef (named 0) κ (R E)).own_val r (v ∷ [])) ∷ ‵ (flft κ q) ∷ ‵ (follows (Rows E) (R E) γ r.ghost_name new) ∷ []) ∵
      suffices ! _ (ends_at 𝓛 (ended E) (stayed E) (spec E 𝓛) bound v r (tt, (tt, (tt, tt))) (tt, (tt, (tt, tt)))) $
      nothing ! $ nothing ! $ fjoin ! $ nothing ! $ fjoin ! $ nothing ! $ fjoin ! $ join ! $ nothing ! $ move ! (2 ∷ 0 ∷ []) $ join ! $ join ! $ frame ! $ says
      ! is_item $ done !

  abbrev Had : List (Item 𝓤)
  Had = ‵ (fobs γ ((Rows E).coded.code row)) ∷ ‵ (fbor κ (Borrowed (mem (Rows E)) rb ro γ)) ∷ ‵ (flft κ q) ∷ []

  walk : Asks E row spot index → index < 2 ^ 64 → ent 𝓤 (⋆ 𝓛 Had) (WpFn 𝓤 H C Λ (function E) (vptr rb ro ∷ word spot.ptr ∷ vint w64 index ∷ []) Post)
  walk asked small_index =
      let x = asked.1.0 in let within = filled_within row.places index x asked.1.1 in let code = (Rows E).coded.code row in
      qed 𝓛 Had ∵ enter ! C Λ (function E) (vptr rb ro ∷ word spot.ptr ∷ vint w64 index ∷ []) _ $
      alloc_all ! (λ l. pass_all ! refl ((tt, tt), (word-Good (spot_type.the_type).name spot.ptr, ((tt, record { fits = small_index }), tt))) $
      let En : Env 𝓤 H = env (function E).locals l in
      opens ! tt (Rows E) {h = row} rb ro (λ vs. move ! (1 ∷ []) $ fsplit ! $ move ! (1 ∷ []) $
      in_a_block ! row.at (λ p. row_owned (R E) p row.places) (id⊢ 𝓤 (never 𝓤)) (λ b o e. fsplit ! $ flt_l ! (λ small.
      let at : ℕ = index * bytes E + o in
      let here : spot.ptr ≡ block_ptr b at = asked.0 ∙ ap (λ (p : Ptr). place_at (R E) p index) e in
      sets ! (is ! (of_opd ! (get_in ! (fld ! refl (stop !)) (sub ! 0 refl (whole !)))) (ap ptr_val here)) refl (tt, tt) $
      use1 𝓛 (‵ (place (R E) b at (get_or row.places index None)) ⊛ ‵ (Others E 𝓛 b o row.places index)) (place_out E 𝓛 b row.places index o at within refl) $
      split ! $
      rewrite ! 0 (λ (c : Place E). ‵ (place (R E) b at c)) asked.1.1 refl $
      -- [the item; the other places; the mark; its cell; the open borrow, in three entries]
      let way = back vs b o e within small in
      first ! $ blocks ! $ sets_last ! (addr ! (through ! refl (stop !))) refl (tt, tt) $
      exec ! C Λ En (after 2 (function E).body) (at_ret En Post) $ sets ! (of_opd ! (get ! refl)) refl (tt, tt) $
      move ! (1 ∷ 2 ∷ 3 ∷ []) $ fjoin3 ! $ move ! (2 ∷ 3 ∷ 4 ∷ 1 ∷ 0 ∷ []) $ group ! 5 $
      use1 𝓛 (later (some (λ (δ : GName). raw (Part 𝓛 (Rows E) (R E) new (named 0) κ q rb ro b at γ (sem 𝓛 (Rest vs b o)) way x δ))))
      (lends_Part 𝓛 (Rows E) (R E) new (named 0) κ q rb ro b at γ (sem 𝓛 (Rest vs b o)) way code code x) $ await ! tt $ pick ! (λ δ.
      returns ! (look_at ! 0 refl) $ free_all ! refl $ keep ! (0 ∷ []) $ by ! (exits (vptr b at) (record {
        ref_ptr = (b, at);
        ghost_name = δ;
        now = x;
      }) asked.1.1))))))

  entry : Asks E row spot index → ent 𝓤 (on_entry 𝓛 (ended E).signature (κ, tt) (q, tt) (self, (spot, (index, tt))) (us0, (us1, (us2, tt))))
      (WpFn 𝓤 H C Λ (function E) (us0 ++ (us1 ++ (us2 ++ []))) Post)
  entry asked =
      qed 𝓛 ((‵ (flft κ q) ⊛ ‵ ftrue) ∷ ‵ (owns (MutRef (named 0) κ (Rows E) ∷ Spots ∷ usize ∷ []) (self, (spot, (index, tt))) (us0, (us1, (us2, tt)))) ∷ []) ∵
      split ! $ move ! (2 ∷ []) $ fsplit ! $ fsplit3 ! $ feq_l ! (λ e0. move ! (2 ∷ []) $ fsplit ! $ word_had ! spot.ptr us1
      (λ e1. fsplit ! $ fsplit ! $ feq_l ! (λ e2. flt_l ! (λ small_index.
      keep ! (1 ∷ 2 ∷ 3 ∷ []) $
      by ! (subst (λ (ws : List Val × List Val × List Val). ent 𝓤 (⋆ 𝓛 Had) (WpFn 𝓤 H C Λ (function E) (ws.0 ++ (ws.1 ++ (ws.2 ++ []))) Post))
      (λ j. (sym e0 j, sym e1 j, sym e2 j)) (walk asked small_index))))))

meets : (E : El) {M : Type 1} {𝓤 : Ura M} (𝓛 : Logic 𝓤) (𝓣 : Tables 𝓤 𝓛.H) →
    Meets 𝓛 (ended E).signature (WpFn 𝓤 𝓛.H 𝓣.C 𝓣.Λ (function E)) (closing 𝓛 (ended E) (spec E 𝓛))
meets E {𝓤 = 𝓤} 𝓛 𝓣 =
    walk_Meets 𝓛 (ended E) (stayed E) (
      Goes-spent_ref 𝓛 1 (0 ∷ []) tt (plain (λ _. Rows E)),
      (Goes-dropped 𝓛 1 (plain (λ _. Spots)) no (λ κs x f. refl), (Goes-dropped 𝓛 1 (plain (λ _. usize)) no (λ κs x f. refl), tt)),
    )
    (spec E 𝓛) (WpFn 𝓤 𝓛.H 𝓣.C 𝓣.Λ (function E)) (WpFn-mono 𝓤 𝓛.H 𝓛.laws 𝓣 (function E))
    (λ z. let a = z.0.3 in let vs = z.0.4 in needs 𝓤 (Asks E a.0.now a.1.0 a.1.1.0) _ (entry E 𝓛 𝓣.C 𝓣.Λ z.0.0.0 z.0.1.0 a.0.ref_ptr.0 a.0.ref_ptr.1
    a.0.ghost_name a.0.now a.1.0 a.1.1.0 vs.0 vs.1.0 vs.1.1.0))

pub follow_mut_spec : {M : Type 1} → stated.statement M
unfolding tables_of
follow_mut_spec 𝓤 𝓛 𝓜 𝓡 wired X L y =
    let E : El = record { row = X; laws = L } in
    let 𝓣 : Tables 𝓤 𝓛.H = tables_of 𝓤 𝓛.H 𝓜 (tables 𝓤 𝓛.H 𝓜 𝓡 𝓡.env) in
    let k = #self (args E) in
    spared 𝓛 (ended E).signature (𝓡.run (𝓡.env k)) (run_framed 𝓤 𝓛.H 𝓜 𝓡 (𝓡.env k)) 1 (X.lives, tt) (closing 𝓛 (ended E) (spec E 𝓛))
    (entered 𝓤 𝓛.H (triple_of 𝓛 (ended E).signature (closing 𝓛 (ended E) (spec E 𝓛))) 𝓣.C 𝓣.Λ k (function E) (code.unfolded 𝓤 𝓛.H 𝓜 𝓡 wired (X, tt))
    (meets E 𝓛 𝓣))
    ((y.0.0, y.0.1, tt, y.0.3, y.0.4), y.1)
