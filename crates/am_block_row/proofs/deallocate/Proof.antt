-- `deallocate` makes the block of its empty places, and gives it back with the right to free it.
use Rattle.am_block_row.proofs.Steps.{◌≡◌, refl, sym, ap, subst, ◌∙◌, arith, T, List, [], ◌∷◌, ◌++◌, ℕ, ◌*◌, ◌<◌, ◌^◌, replicate, length-replicate, Ura, SProp}
use Rattle.am_block_row.proofs.Steps.{ent, never, id⊢, Lft, Share, Incl-trans, ftrue, froom, flft, Fn, named, w64, ty_unit, ty_array, inst_fn, Val, vptr, vint}
use Rattle.am_block_row.proofs.Steps.{vunit, has_ty, WT, Memory, align, capped, capped_fits, Routine, Env, Calls, Loops, WpFn, Tables, Logic, Fun, fact, ◌⊑◌}
use Rattle.am_block_row.proofs.Steps.{FmC, fm_of, WpFn-mono, Item, ⋆, ‵, raw, ◌⊛◌, given, later, await, learn, at_ret, ◌$◌, ◌∵◌, !, qed, by, move, keep, use1}
use Rattle.am_block_row.proofs.Steps.{split, join, group, rewrite, fsplit, fsplit3, fjoin, feq_i, feq_l, flt_l, suffices, done, whole, sub, stop, fld, unit_lit}
use Rattle.am_block_row.proofs.Steps.{size_word, align_word, of_opd, bin, and_then, no_more, first, blocks, exec, returns, enter, alloc_all, pass_all, free_all}
use Rattle.am_block_row.proofs.Steps.{look_at, get, get_in, sets, lands_last, is, env, yes, no, RattleType, owns, hidden_shr, Ptr, ptr_val, in_a_block, Bor}
use Rattle.am_block_row.proofs.Steps.{ShrRef, RefOf, usize, plain, nothing, calls_at_last, Clauses, Ended, closing, on_entry, Meets, triple_of, Triple, entered}
use Rattle.am_block_row.proofs.Steps.{needs, Stays, stay_dropped, walk_of, ends_at, Goes-dropped, walk_Meets, None, El, R, elτ, as_raw, word, word-Good, after}
use contract.Running.{tables, tables_of}
use Rattle.std.proofs.alloc.Calls.{Al, second, token, gives_key, Gives, at_gives, Gives-goes, Gives-Gives, Goes-blank}
use Rattle.am_block_row.specs.Ownership.{row_owned, deed_owned}
use Rattle.am_block_row.specs.contracts.Deed as deed_type
use Rattle.am_block_row.proofs.Parts.{Rows, Bases, mark, mark_had, word_had}
use Rattle.am_block_row.proofs.Memory.{bytes, Place, to_room}
use Rattle.am_block_row.proofs.Blocks.{uncapped, block_ty, block_size, block_align, both_args, Heap}
use Rattle.am_block_row.specs.contracts.deallocate as F
use Rattle.am_block_row.specs.contracts.deallocate.Key.{name as #self}
use Rattle.am_block_row.proofs.deallocate.Statement as stated
use Rattle.am_block_row.proofs.deallocate.Code as code

module _ (E : El) (Z : Al) where
  abbrev function : Fn
  function = inst_fn (both_args E Z) code.function

  abbrev ended : Ended
  ended = F.ended E.row Z.row Z.g Z.d Z.drops

  abbrev clauses : {M : Type 1} {𝓤 : Ura M} (𝓛 : Logic 𝓤) → (Memory → SProp 𝓤) → (Routine → Fun 𝓤) → Clauses 𝓤 ended
  clauses 𝓛 = F.clauses E.row Z.row Z.g Z.d Z.drops 𝓛

  abbrev Deeds : RattleType
  Deeds = deed_type.the_row (R E) (Heap E Z) Z.g

  abbrev stayed : Stays ended.signature.params ended.kept
  stayed = (
    stay_dropped (RefOf (0 ∷ []) tt (plain (λ _. Heap E Z)) (λ _. tt)) yes,
    (
      stay_dropped (plain (λ _. Bases E)) no,
      (stay_dropped (plain (λ _. usize)) yes, (stay_dropped (plain (λ _. Rows E)) no, (stay_dropped (plain (λ _. Deeds)) no, tt))),
    ),
  )

  abbrev Asks : Z.row.Denot → (Bases E).Denot → ℕ → (Rows E).Denot → Deeds.Denot → Type 0
  Asks alloc base len row deed = (row.at ≡ base.ptr) × (row.places ≡ replicate len None) × (deed.at ≡ base.ptr) × (deed.len ≡ len) × (deed.alloc ≡ alloc)

module _ (E : El) (Z : Al) {M : Type 1} {𝓤 : Ura M} (𝓛 : Logic 𝓤) (at_mem : Memory → SProp 𝓤) (run : Routine →
    Fun 𝓤) (C : Calls 𝓤 𝓛.H) (Λ : Loops 𝓤 𝓛.H) (fm : FmC 𝓤 𝓛.H 𝓛.laws C)
    (callee : Triple 𝓤 (C (gives_key Z)) (Gives Z 𝓛 at_mem run)) (κ κ₁ κ₂ : Lft) (q q₁ q₂ : Share) (short : κ ⊑ κ₂) (within : κ₂ ⊑ Z.row.lives) (rb ro : ℕ)
    (alloc : Z.row.Denot) (base : (Bases E).Denot) (len : ℕ) (row : (Rows E).Denot) (deed : (Deeds E Z).Denot) (us0 us1 us2 us3 us4 : List Val) where
  open 𝓛 use {H, A}

  abbrev self : Bor Z.row.Denot
  self = record { ref_ptr = (rb, ro); now = alloc }

  abbrev tokens : Item 𝓤
  tokens = ‵ (flft κ₁ q₁) ⊛ ‵ (flft κ₂ q₂) ⊛ ‵ ftrue

  abbrev bound : (walk_of 𝓛 (ended E Z) (stayed E Z) (clauses E Z 𝓛 at_mem run)).Ghost
  bound = (((κ, (κ₁, (κ₂, tt))), (q, (q₁, (q₂, tt))), (short, tt), (self, (base, (len, (row, (deed, tt))))), (us0, (us1, (us2, (us3, (us4, tt)))))), tt)

  abbrev Post : Val → SProp 𝓤
  Post = (walk_of 𝓛 (ended E Z) (stayed E Z) (clauses E Z 𝓛 at_mem run)).post bound

  exits : ent 𝓤 (⋆ 𝓛 (‵ (flft κ q) ∷ tokens ∷ [])) (Post vunit)
  exits =
      qed 𝓛 (‵ (flft κ q) ∷ tokens ∷ []) ∵
      suffices ! _ (ends_at 𝓛 (ended E Z) (stayed E Z) (clauses E Z 𝓛 at_mem run) bound vunit tt (tt, (tt, (tt, (tt, (tt, tt))))) (
        tt,
        (tt, (tt, (tt, (tt, tt)))),
      )) $
      join ! $ feq_i ! (List Val) (vunit ∷ []) (vunit ∷ []) refl $ nothing ! $ nothing ! $ fjoin ! $ nothing ! $ fjoin ! $ nothing ! $ fjoin ! $ nothing ! $
      fjoin ! $ nothing ! $ fjoin ! $ join ! $
      move ! (1 ∷ 0 ∷ []) $ join ! $ nothing ! $ move ! (1 ∷ 0 ∷ []) $ done !

  abbrev Had : List (Item 𝓤)
  Had = ‵ (row_owned (R E) row.at row.places) ∷ ‵ (deed_owned (R E) (token Z deed.alloc) deed.at deed.len) ∷ ‵ (hidden_shr (Heap E Z) κ alloc rb ro) ∷ ‵
      (flft κ q) ∷ tokens ∷ []

  walk : Asks E Z alloc base len row deed → len < 2 ^ 64 → ent 𝓤 (⋆ 𝓛 Had) (WpFn 𝓤 H C Λ (function E Z)
      (vptr rb ro ∷ word base.ptr ∷ vint w64 len ∷ mark ∷ mark ∷ []) Post)
  walk asked small_len =
      qed 𝓛 Had ∵ enter ! C Λ (function E Z) (vptr rb ro ∷ word base.ptr ∷ vint w64 len ∷ mark ∷ mark ∷ []) _ $
      alloc_all ! (λ l. pass_all ! refl ((tt, tt), (word-Good [] base.ptr, ((tt, record { fits = small_len }), ((tt, (tt, tt)), ((tt, (tt, tt)), tt))))) $
      let En : Env 𝓤 H = env (function E Z).locals l in
      let s = bytes E in let al : ℕ = capped (align (elτ E)) in
      rewrite ! 0 (λ (c : Ptr × List (Place E)). ‵ (row_owned (R E) c.0 c.1)) (λ i. (asked.0 i, asked.1 i)) refl $
      in_a_block ! base.ptr (λ p. row_owned (R E) p (replicate len None)) (id⊢ 𝓤 (never 𝓤)) (λ b o e. fsplit ! $ flt_l ! (λ fit.
      let small : len * s < 2 ^ 63 = subst (λ k. k * s < 2 ^ 63) (length-replicate len None) fit in
      let in_word : len * s < 2 ^ 64 = omega arith in
      let y : (Gives Z 𝓛 at_mem run).Ghost = at_gives Z 𝓛 at_mem run κ q (rb, ro) alloc b o (len * s) al (block_ty E len) in
      rewrite ! 1 (λ (d : Z.row.Denot × Ptr × ℕ). ‵ (deed_owned (R E) (token Z d.0) d.1 d.2)) (λ i. (asked.4 i, (asked.2 ∙ e) i, asked.3 i)) refl $
      use1 𝓛 (‵ (froom (ty_array (elτ E) len) b o)) (to_room E 𝓛 b len o) $ as_raw ! (ty_array (elτ E) len) b o $
      -- [the block's room; the deed's token; the `&` to the allocator; its token; the other tokens]
      first ! $ blocks ! $
      sets ! (is ! (of_opd ! (get_in ! (fld ! refl (stop !)) (sub ! 0 refl (whole !)))) (ap ptr_val e)) refl (tt, tt) $
      sets ! (is ! (bin ! (get ! refl) (size_word !) (record { fits = subst (λ (k : ℕ). k < 2 ^ 64) (sym (uncapped len s in_word)) in_word }))
      (ap (vint w64) (uncapped len s in_word))) refl (tt, record { fits = in_word }) $
      group ! 4 $ use1 𝓛 (raw ((Gives Z 𝓛 at_mem run).pre y))
      (Gives-goes Z 𝓛 at_mem run κ q (rb, ro) alloc (Incl-trans short within) b o (len * s) al (block_ty E len) (block_size E len in_word) (block_align E len)
      in_word (capped_fits (align (elτ E)))) $
      calls_at_last ! fm (Gives Z 𝓛 at_mem run) callee y (and_then ! (get ! refl) (and_then ! (get ! refl)
      (and_then ! (get ! refl) (and_then ! (align_word !) (no_more !))))) (λ v.
      use1 𝓛 (later (given (v ≡ vunit) (‵ (flft κ q)))) (Gives-Gives Z 𝓛 at_mem run κ q (rb, ro) alloc b o (len * s) al (block_ty E len) v) $ await ! tt $ learn
      ! (λ freed.
      lands_last ! refl (subst (λ (u : Val). T (has_ty ty_unit u) × WT u) (sym freed) (tt, tt)) $ exec ! C Λ En (after 1 (function E Z).body) (at_ret En Post) $
      sets ! (of_opd ! (unit_lit !)) refl (tt, tt) $ returns ! (look_at ! 0 refl) $ free_all ! refl $ keep ! (0 ∷ 1 ∷ []) $ by ! exits)))))

  entry : Asks E Z alloc base len row deed → ent 𝓤 (on_entry 𝓛 (ended E Z).signature (κ, (κ₁, (κ₂, tt))) (q, (q₁, (q₂, tt))) (
    self,
    (base, (len, (row, (deed, tt)))),
  ) (us0, (us1, (us2, (us3, (us4, tt)))))) (WpFn 𝓤 H C Λ (function E Z) (us0 ++ (us1 ++ (us2 ++ (us3 ++ (us4 ++ [])))))
      Post)
  entry asked =
      qed 𝓛 ((‵ (flft κ q) ⊛ tokens) ∷ ‵ (owns (ShrRef (named 0) κ (Heap E Z) ∷ Bases E ∷ usize ∷ Rows E ∷ Deeds E Z ∷ []) (
        self,
        (base, (len, (row, (deed, tt)))),
      ) (us0, (us1, (us2, (us3, (us4, tt)))))) ∷ []) ∵ split ! $ move ! (2 ∷ []) $ fsplit3 ! $ fsplit ! $ feq_l ! (λ e0.
      move ! (1 ∷ []) $ word_had ! base.ptr us1 (λ e1. move ! (1 ∷ []) $ fsplit3 ! $ fsplit ! $ feq_l ! (λ e2. flt_l ! (λ small_len.
      fsplit ! $ mark_had ! E us3 (λ e3. move ! (1 ∷ []) $ fsplit ! $ fsplit ! $ mark_had ! E us4 (λ e4. keep ! (2 ∷ 0 ∷ 3 ∷ 4 ∷ 5 ∷ []) $
      by ! (subst (λ (ws : List Val × List Val × List Val × List Val × List Val). ent 𝓤 (⋆ 𝓛 Had)
      (WpFn 𝓤 H C Λ (function E Z) (ws.0 ++ (ws.1 ++ (ws.2 ++ (ws.3 ++ (ws.4 ++ []))))) Post))
      (λ j. (sym e0 j, sym e1 j, sym e2 j, sym e3 j, sym e4 j)) (walk asked small_len))))))))

meets : (E : El) (Z : Al) {M : Type 1} {𝓤 : Ura M} (𝓛 : Logic 𝓤) (at_mem : Memory → SProp 𝓤) (run : Routine → Fun 𝓤) (𝓣 : Tables 𝓤 𝓛.H) →
    Triple 𝓤 (𝓣.C (gives_key Z)) (Gives Z 𝓛 at_mem run)
    → Meets 𝓛 (ended E Z).signature (WpFn 𝓤 𝓛.H 𝓣.C 𝓣.Λ (function E Z)) (closing 𝓛 (ended E Z) (clauses E Z 𝓛 at_mem run))
meets E Z {𝓤 = 𝓤} 𝓛 at_mem run 𝓣 callee =
    walk_Meets 𝓛 (ended E Z) (stayed E Z) (
      Goes-dropped 𝓛 3 (RefOf (0 ∷ []) tt (plain (λ _. Heap E Z)) (λ _. tt)) yes (λ κs x f. refl),
      (
        Goes-dropped 𝓛 3 (plain (λ _. Bases E)) no (λ κs x f. refl),
        (
          Goes-dropped 𝓛 3 (plain (λ _. usize)) yes (λ κs x f. refl),
          (Goes-blank 𝓛 3 (plain (λ _. Rows E)) no (λ κs x f. tt), (Goes-blank 𝓛 3 (plain (λ _. Deeds E Z)) no (λ κs x f. tt), tt)),
        ),
      ),
    )
    (clauses E Z 𝓛 at_mem run) (WpFn 𝓤 𝓛.H 𝓣.C 𝓣.Λ (function E Z)) (WpFn-mono 𝓤 𝓛.H 𝓛.laws 𝓣 (function E Z))
    (λ z. let κs = z.0.0 in let qs = z.0.1 in let a = z.0.3 in let vs = z.0.4 in
    let On : SProp 𝓤 = on_entry 𝓛 (ended E Z).signature κs qs a vs in
    let Needed = Asks E Z a.0.now a.1.0 a.1.1.0 a.1.1.1.0 a.1.1.1.1.0 in
    second 𝓤 (κs.1.0 ⊑ E.row.lives) (κs.1.1.0 ⊑ Z.row.lives) On (fact 𝓤 Needed) (λ within. needs 𝓤 Needed On
    (entry E Z 𝓛 at_mem run 𝓣.C 𝓣.Λ (fm_of 𝓤 𝓛.H 𝓛.laws 𝓣) callee κs.0 κs.1.0 κs.1.1.0 qs.0 qs.1.0 qs.1.1.0 z.0.2.0 within a.0.ref_ptr.0 a.0.ref_ptr.1 a.0.now
    a.1.0 a.1.1.0 a.1.1.1.0 a.1.1.1.1.0 vs.0 vs.1.0 vs.1.1.0 vs.1.1.1.0 vs.1.1.1.1.0)))

pub deallocate_spec : {M : Type 1} → stated.statement M
unfolding tables_of
deallocate_spec 𝓤 𝓛 𝓜 𝓡 wired X W LX LW g d dd met md =
    let E : El = record { row = X; laws = LX } in
    let Z : Al = record { row = W; laws = LW; g = g; d = d; drops = dd } in
    let 𝓣 : Tables 𝓤 𝓛.H = tables_of 𝓤 𝓛.H 𝓜 (tables 𝓤 𝓛.H 𝓜 𝓡 𝓡.env) in
    entered 𝓤 𝓛.H (triple_of 𝓛 (ended E Z).signature (F.spec X W g d dd 𝓛 𝓜.mem 𝓡.returns)) 𝓣.C 𝓣.Λ (#self (both_args E Z)) (function E Z)
    (code.unfolded 𝓤 𝓛.H 𝓜 𝓡 wired (X, (W, tt)) d dd)
    (meets E Z 𝓛 𝓜.mem 𝓡.returns 𝓣 (met.deallocate dd))
