-- `allocate` makes empty places of a new block, and keeps the right to free it.
use Rattle.am_block_row.proofs.Steps.{◌≡◌, refl, sym, ap, subst, true, false, arith, lit<, List, [], ◌∷◌, ◌++◌, ℕ, ◌*◌, ◌<◌, ◌^◌, length, replicate}
use Rattle.am_block_row.proofs.Steps.{length-replicate, Ura, SProp, ent, Lft, Share, Incl-trans, ftrue, flft, Fn, Body, named, w64, ty_array, inst_fn, Val}
use Rattle.am_block_row.proofs.Steps.{vptr, vint, vstruct, vcons, vnil, Memory, align, capped, capped_fits, Routine, Env, Calls, Loops, Wp, WpFn, Tables}
use Rattle.am_block_row.proofs.Steps.{after_seq, at_return, Logic, Fun, fact, ◌⊑◌, FmC, fm_of, WpFn-mono, Item, ⋆, ‵, raw, ◌⊛◌, later, await, any_q, at_ret}
use Rattle.am_block_row.proofs.Steps.{◌$◌, ◌∵◌, !, qed, by, move, keep, use0, use1, use2, use3, split, join, fsplit, fsplit3, fjoin, feq_l, flt_i, flt_l}
use Rattle.am_block_row.proofs.Steps.{suffices, frame, done, whole, agg, stop, fld, lit, size_word, align_word, of_opd, bin, and_then, no_more, first, exec}
use Rattle.am_block_row.proofs.Steps.{returns, enter, switches_on, alloc_all, pass_all, free_all, look_at, get, get_in, get_tag, sets, sets_last, lands_as, is}
use Rattle.am_block_row.proofs.Steps.{env, live, vrt, in_variant, yes, RattleType, owns, Is, hidden_shr, layout, Ptr, block_ptr, Bor, ShrRef, RefOf, usize}
use Rattle.am_block_row.proofs.Steps.{plain, nothing, owned, Struct, Struct-Makes, Tuple, calls_at, Clauses, Ended, closing, on_entry, Meets, triple_of, Triple}
use Rattle.am_block_row.proofs.Steps.{entered, needs, Stays, stay_dropped, walk_of, ends_at, Goes-dropped, walk_Meets, None, Ok, Err, IfOk, El, R, elτ}
use Rattle.am_block_row.proofs.Steps.{as_written, Good, word, word-Good, first_Good, after, head, arm_body}
use types.Kit.{Post as After}
use contract.Running.{tables, tables_of}
use Rattle.am_block_row.proofs.Steps.Declared
use Rattle.std.specs.Vec.Ownership.{FitsInBlock}
use Rattle.std.specs.contracts.result.Result as result_type
use Rattle.std.specs.contracts.alloc.AllocError as error_type
use Rattle.std.proofs.alloc.Calls.{Al, second, Answer-typed, takes_key, Takes, at_takes, Answered, Takes-goes, Takes-gives, answers}
use Rattle.std.proofs.ResultValues.{ok_of, err_of}
use Rattle.am_block_row.specs.Ownership.{places}
use Rattle.am_block_row.specs.contracts.Deed as deed_type
use Rattle.am_block_row.proofs.Parts.{Rows, Bases, Marks, mark, mark_made, word_made, says_both, three_val, three_of}
use Rattle.am_block_row.proofs.Memory.{bytes, of_room}
use Rattle.am_block_row.proofs.Blocks.{uncapped, block_ty, block_size, block_align, both_args, Heap}
use Rattle.am_block_row.specs.contracts.allocate as F
use Rattle.am_block_row.specs.contracts.allocate.Key.{name as #self}
use Rattle.am_block_row.proofs.allocate.Statement as stated
use Rattle.am_block_row.proofs.allocate.Code as code

module _ (E : El) (Z : Al) where
  abbrev function : Fn
  function = inst_fn (both_args E Z) code.function

  abbrev ended : Ended
  ended = F.ended E.row Z.row Z.g Z.d Z.drops

  abbrev clauses : {M : Type 1} {𝓤 : Ura M} (𝓛 : Logic 𝓤) → (Memory → SProp 𝓤) → (Routine → Fun 𝓤) → Clauses 𝓤 ended
  clauses 𝓛 = F.clauses E.row Z.row Z.g Z.d Z.drops 𝓛

  abbrev stayed : Stays ended.signature.params ended.kept
  stayed = (stay_dropped (RefOf (0 ∷ []) tt (plain (λ _. Heap E Z)) (λ _. tt)) yes, (stay_dropped (plain (λ _. usize)) yes, tt))

  abbrev Deeds : RattleType
  Deeds = deed_type.the_row (R E) (Heap E Z) Z.g

  abbrev Three : RattleType
  Three = Tuple (Bases E ∷ Rows E ∷ Deeds ∷ [])

  abbrev Out : RattleType
  Out = result_type.the_row Three error_type.the_row

  abbrev IsEmptyRow : ℕ → Three.Denot → Type 0
  IsEmptyRow len t = (t.1.at ≡ t.0.ptr) × (t.1.places ≡ replicate len None)

  abbrev IsDeed : ℕ → Z.row.Denot → Three.Denot → Type 0
  IsDeed len alloc t = (t.2.at ≡ t.0.ptr) × (t.2.len ≡ len) × (t.2.alloc ≡ alloc)

module _ (E : El) (Z : Al) {M : Type 1} {𝓤 : Ura M} (𝓛 : Logic 𝓤) (at_mem : Memory → SProp 𝓤) (run : Routine →
    Fun 𝓤) (C : Calls 𝓤 𝓛.H) (Λ : Loops 𝓤 𝓛.H) (fm : FmC 𝓤 𝓛.H 𝓛.laws C)
    (callee : Triple 𝓤 (C (takes_key Z)) (Takes Z 𝓛 at_mem run)) (κ κ₁ κ₂ : Lft) (q q₁ q₂ : Share) (short : κ ⊑ κ₂) (within : κ₂ ⊑ Z.row.lives) (rb ro : ℕ)
    (alloc : Z.row.Denot) (len : ℕ) (us0 us1 : List Val) where
  open 𝓛 use {H, A}

  abbrev self : Bor Z.row.Denot
  self = record { ref_ptr = (rb, ro); now = alloc }

  abbrev tokens : Item 𝓤
  tokens = ‵ (flft κ₁ q₁) ⊛ ‵ (flft κ₂ q₂) ⊛ ‵ ftrue

  abbrev bound : (walk_of 𝓛 (ended E Z) (stayed E Z) (clauses E Z 𝓛 at_mem run)).Ghost
  bound = (((κ, (κ₁, (κ₂, tt))), (q, (q₁, (q₂, tt))), (short, tt), (self, (len, tt)), (us0, (us1, tt))), tt)

  abbrev Post : Val → SProp 𝓤
  Post = (walk_of 𝓛 (ended E Z) (stayed E Z) (clauses E Z 𝓛 at_mem run)).post bound

  exits : (r : (Out E Z).Denot) (v : Val) → IfOk r (IsEmptyRow E Z len) → IfOk r (IsDeed E Z len alloc)
      → ent 𝓤 (⋆ 𝓛 (‵ ((Out E Z).own_val r (v ∷ [])) ∷ ‵ (flft κ q) ∷ tokens ∷ [])) (Post v)
  exits r v is_empty is_deed =
      qed 𝓛 (‵ ((Out E Z).own_val r (v ∷ [])) ∷ ‵ (flft κ q) ∷ tokens ∷ []) ∵
      suffices ! _ (ends_at 𝓛 (ended E Z) (stayed E Z) (clauses E Z 𝓛 at_mem run) bound v r (tt, (tt, tt)) (tt, (tt, tt))) $ says_both ! is_empty is_deed $
      move ! (1 ∷ 2 ∷ []) $ join ! $ frame ! $ nothing ! $ nothing ! $ fjoin ! $ nothing ! $ fjoin ! $ done !

  abbrev Had : List (Item 𝓤)
  Had = ‵ (hidden_shr (Heap E Z) κ alloc rb ro) ∷ ‵ (flft κ q) ∷ tokens ∷ []

  walk : FitsInBlock (R E) len → len < 2 ^ 64 → ent 𝓤 (⋆ 𝓛 Had) (WpFn 𝓤 H C Λ (function E Z) (vptr rb ro ∷ vint w64 len ∷ []) Post)
  walk asked small_len =
      let s = bytes E in
      let small : len * s < 2 ^ 63 = asked.0 in
      let in_word : len * s < 2 ^ 64 = omega arith in
      qed 𝓛 Had ∵ enter ! C Λ (function E Z) (vptr rb ro ∷ vint w64 len ∷ []) _ $ alloc_all !
      (λ l. pass_all ! refl ((tt, tt), ((tt, record { fits = small_len }), tt)) $
      let En : Env 𝓤 H = env (function E Z).locals l in
      let matched : Body = head (after 2 (function E Z).body) in
      let Then : After 𝓤 H = any_q (after_seq 𝓤 H (Wp 𝓤 H C Λ En (after 3 (function E Z).body) (at_return 𝓤 H En Post)) (at_return 𝓤 H En Post)) in
      let al : ℕ = capped (align (elτ E)) in
      let y : (Takes Z 𝓛 at_mem run).Ghost = at_takes Z 𝓛 at_mem run κ q (rb, ro) alloc (len * s) al (block_ty E len) in
      sets ! (is ! (bin ! (get ! refl) (size_word !) (record { fits = subst (λ (k : ℕ). k < 2 ^ 64) (sym (uncapped len s in_word)) in_word }))
      (ap (vint w64) (uncapped len s in_word))) refl (tt, record { fits = in_word }) $
      use2 𝓛 (raw ((Takes Z 𝓛 at_mem run).pre y))
      (Takes-goes Z 𝓛 at_mem run κ q (rb, ro) alloc (Incl-trans short within) (len * s) al (block_ty E len) (block_size E len in_word) (block_align E len)
      in_word (capped_fits (align (elτ E)))) $
      calls_at ! fm (Takes Z 𝓛 at_mem run) callee y (and_then ! (get ! refl) (and_then ! (get ! refl) (and_then ! (align_word !) (no_more !)))) (λ v.
      use1 𝓛 (later (raw (Answered Z 𝓛 at_mem run alloc (block_ty E len) v) ⊛ ‵ (flft κ q)))
      (Takes-gives Z 𝓛 at_mem run κ q (rb, ro) alloc (len * s) al (block_ty E len) v) $ await ! tt $ split ! $
      answers Z ! at_mem run alloc (block_ty E len) v
      (λ b o e.
      let p : Ptr = block_ptr b o in
      let base : (Bases E).Denot = record { ptr = p } in
      let row : (Rows E).Denot = record { mark = record {}; at = p; places = replicate len None } in
      let deed : (Deeds E Z).Denot = record { mark = record {}; at = p; len = len; alloc = alloc } in
      let made : Val = three_val (word p) mark mark in
      let typed : Good (layout (Three E Z)) made = (tt, ((tt, tt), ((tt, tt), ((tt, tt), tt)))) in
      let good = first_Good (layout (Three E Z)) made typed in
      lands_as ! e refl (Answer-typed true b o) $ first ! $ switches_on ! (get_tag ! (vrt ! refl (fld ! refl (stop !))) (whole !)) $ exec ! C Λ En
      (arm_body 0 matched) Then $
      sets ! (of_opd ! (get_in ! (vrt ! refl (fld ! refl (stop !))) (in_variant ! 0 0 refl refl (whole !)))) refl (
        tt,
        tt,
      ) $ sets ! (of_opd ! (get ! refl)) refl (tt, tt) $
      sets ! (agg ! (and_then ! (get ! refl) (no_more !))) refl (word-Good [] p) $
      sets ! (agg ! (no_more !)) refl (tt, tt) $ sets ! (agg ! (and_then ! (get ! refl) (no_more !))) refl (tt, (tt, tt)) $
      sets ! (agg ! (no_more !)) refl (tt, tt) $ sets ! (agg ! (and_then ! (get ! refl) (no_more !))) refl (tt, (tt, tt)) $
      sets ! (agg ! (and_then ! (get ! refl) (and_then ! (get ! refl) (and_then ! (get ! refl) (no_more !))))) refl typed $
      sets_last ! (agg ! (and_then ! (lit ! tt) (and_then ! (get ! refl) (no_more !)))) refl good $
      exec ! C Λ En (after 3 (function E Z).body) (at_ret En Post) $ sets ! (of_opd ! (get ! refl)) refl good $
      -- [the deed's token and the block's room, then each of the three values]
      move ! (1 ∷ []) $ use0 𝓛 (‵ ((Marks E).own_val (tt, tt) (mark ∷ []))) (mark_made E 𝓛) $ fjoin ! $ move ! (1 ∷ []) $
      as_written ! (ty_array (elτ E) len) b o $ use1 𝓛 (‵ (places (R E) b o row.places)) (of_room E 𝓛 b len o) $
      flt_i ! (length row.places * s) (2 ^ 63) (subst (λ k. k * s < 2 ^ 63) (sym (length-replicate len None)) small) $ fjoin ! $
      use0 𝓛 (‵ ((Marks E).own_val (tt, tt) (mark ∷ []))) (mark_made E 𝓛) $ fjoin ! $ word_made ! p $
      use3 𝓛 (‵ ((Three E Z).own_val (base, row, deed) (made ∷ []))) (three_of 𝓛 (Bases E) (Rows E) (Deeds E Z) base row deed (word p) mark mark) $
      use1 𝓛 (‵ ((Out E Z).own_val (Ok (base, row, deed)) (live 0 (vcons made vnil) ∷ []))) (ok_of 𝓛 (Three E Z) error_type.the_row (base, row, deed) made) $
      returns ! (look_at ! 0 refl) $ free_all ! refl $ keep ! (0 ∷ 1 ∷ 2 ∷ []) $ by ! (exits (Ok (base, row, deed)) (live 0 (vcons made vnil)) (
        refl,
        refl,
      ) (refl, refl, refl)))
      (λ e.
      let Refusal : RattleType = Struct (Declared.shape error_type.the_type) in
      let refused : Val = live 1 (vcons (vstruct vnil) vnil) in
      lands_as ! e refl (Answer-typed false 0 0) $ first ! $ switches_on ! (get_tag ! (vrt ! refl (fld ! refl (stop !))) (whole !)) $ exec ! C Λ En
      (arm_body 1 matched) Then $
      sets ! (of_opd ! (get_in ! (vrt ! refl (fld ! refl (stop !))) (in_variant ! 1 0 refl refl (whole !)))) refl (tt, tt) $
      sets_last ! (agg ! (and_then ! (lit ! tt) (and_then ! (get ! refl) (no_more !)))) refl (tt, (record { fits = lit< tt }, (tt, tt))) $
      exec ! C Λ En (after 3 (function E Z).body) (at_ret En Post) $ sets ! (of_opd ! (get ! refl)) refl (tt, (record { fits = lit< tt }, (tt, tt))) $
      owned ! Refusal (Is Refusal) (Struct-Makes 𝓛 (Declared.shape error_type.the_type) tt) tt (vstruct vnil ∷ []) (tt, (refl, tt)) $
      use1 𝓛 (‵ ((Out E Z).own_val (Err (record {})) (refused ∷ []))) (err_of 𝓛 (Three E Z) error_type.the_row (record {}) (vstruct vnil)) $
      returns ! (look_at ! 0 refl) $ free_all ! refl $ keep ! (0 ∷ 1 ∷ 2 ∷ []) $ by ! (exits (Err (record {})) refused tt tt))))

  entry : FitsInBlock (R E) len → ent 𝓤 (on_entry 𝓛 (ended E Z).signature (κ, (κ₁, (κ₂, tt))) (q, (q₁, (q₂, tt))) (self, (len, tt)) (us0, (us1, tt)))
      (WpFn 𝓤 H C Λ (function E Z) (us0 ++ (us1 ++ [])) Post)
  entry asked =
      qed 𝓛 ((‵ (flft κ q) ⊛ tokens) ∷ ‵ (owns (ShrRef (named 0) κ (Heap E Z) ∷ usize ∷ []) (self, (len, tt)) (us0, (us1, tt))) ∷ []) ∵ split ! $ move !
      (2 ∷ []) $ fsplit3 ! $ fsplit ! $ feq_l ! (λ e0.
      move ! (1 ∷ []) $ fsplit ! $ feq_l ! (λ e1. flt_l ! (λ small_len. keep ! (0 ∷ 2 ∷ 3 ∷ []) $
      by ! (subst (λ (ws : List Val × List Val). ent 𝓤 (⋆ 𝓛 Had) (WpFn 𝓤 H C Λ (function E Z) (ws.0 ++ (ws.1 ++ [])) Post)) (λ j. (sym e0 j, sym e1 j))
      (walk asked small_len)))))

meets : (E : El) (Z : Al) {M : Type 1} {𝓤 : Ura M} (𝓛 : Logic 𝓤) (at_mem : Memory → SProp 𝓤) (run : Routine → Fun 𝓤) (𝓣 : Tables 𝓤 𝓛.H) →
    Triple 𝓤 (𝓣.C (takes_key Z)) (Takes Z 𝓛 at_mem run)
    → Meets 𝓛 (ended E Z).signature (WpFn 𝓤 𝓛.H 𝓣.C 𝓣.Λ (function E Z)) (closing 𝓛 (ended E Z) (clauses E Z 𝓛 at_mem run))
meets E Z {𝓤 = 𝓤} 𝓛 at_mem run 𝓣 callee =
    walk_Meets 𝓛 (ended E Z) (stayed E Z) (
      Goes-dropped 𝓛 3 (RefOf (0 ∷ []) tt (plain (λ _. Heap E Z)) (λ _. tt)) yes (λ κs x f. refl),
      (Goes-dropped 𝓛 3 (plain (λ _. usize)) yes (λ κs x f. refl), tt),
    )
    (clauses E Z 𝓛 at_mem run) (WpFn 𝓤 𝓛.H 𝓣.C 𝓣.Λ (function E Z)) (WpFn-mono 𝓤 𝓛.H 𝓛.laws 𝓣 (function E Z))
    (λ z. let κs = z.0.0 in let qs = z.0.1 in let a = z.0.3 in let vs = z.0.4 in
    let On : SProp 𝓤 = on_entry 𝓛 (ended E Z).signature κs qs a vs in
    let Asks = FitsInBlock (R E) a.1.0 in
    second 𝓤 (κs.1.0 ⊑ E.row.lives) (κs.1.1.0 ⊑ Z.row.lives) On (fact 𝓤 Asks) (λ within. needs 𝓤 Asks On
    (entry E Z 𝓛 at_mem run 𝓣.C 𝓣.Λ (fm_of 𝓤 𝓛.H 𝓛.laws 𝓣) callee κs.0 κs.1.0 κs.1.1.0 qs.0 qs.1.0 qs.1.1.0 z.0.2.0 within a.0.ref_ptr.0 a.0.ref_ptr.1 a.0.now
    a.1.0 vs.0 vs.1.0)))

pub allocate_spec : {M : Type 1} → stated.statement M
unfolding tables_of
allocate_spec 𝓤 𝓛 𝓜 𝓡 wired X W LX LW g d dd met md =
    let E : El = record { row = X; laws = LX } in
    let Z : Al = record { row = W; laws = LW; g = g; d = d; drops = dd } in
    let 𝓣 : Tables 𝓤 𝓛.H = tables_of 𝓤 𝓛.H 𝓜 (tables 𝓤 𝓛.H 𝓜 𝓡 𝓡.env) in
    entered 𝓤 𝓛.H (triple_of 𝓛 (ended E Z).signature (F.spec X W g d dd 𝓛 𝓜.mem 𝓡.returns)) 𝓣.C 𝓣.Λ (#self (both_args E Z)) (function E Z)
    (code.unfolded 𝓤 𝓛.H 𝓜 𝓡 wired (X, (W, tt)) d dd)
    (meets E Z 𝓛 𝓜.mem 𝓡.returns 𝓣 (met.allocate dd))
