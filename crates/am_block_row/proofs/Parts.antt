-- A struct of one pointer and a struct of no bytes, and one value of the type parameter.
use Rattle.am_block_row.proofs.Steps.{◌≡◌, ℕ, refl, subst, List, [], ◌∷◌, ◌++◌, Ura, full_share, SProp, ent, sep, emp, ex, guard, via, fat, Val, vstruct, vcons}
use Rattle.am_block_row.proofs.Steps.{vnil, of_list, Ty, Logic, sem, fact, fact_i, Item, Goal, Seq, Step, step, ‵, raw, ◌⊛◌, some, pick, prop, ◌$◌, ◌∵◌, !, qed}
use Rattle.am_block_row.proofs.Steps.{move, drop, use0, use1, split, rewrite, check, show, frame, fsplit, fjoin, fpick, fpack, feq_i, feq_l, done, RattleType}
use Rattle.am_block_row.proofs.Steps.{Valss, Typed, Is, shows, part_at, layout, param, Laws, param_laws, Ptr, RawPtr, ptr_val, makes_shadow, nothing, peeks}
use Rattle.am_block_row.proofs.Steps.{Shape, Struct, within, shape, Tuple, tuple_type, part_in, part_out, El, R, Good, word}
use Rattle.am_block_row.proofs.Steps.Declared
use Rattle.am_block_row.specs.contracts.Row as row_type
use Rattle.am_block_row.specs.contracts.Base as base_type
use Rattle.am_block_row.specs.contracts.Spot as spot_type

module _ (E : El) where
  abbrev pub Rows : RattleType
  Rows = row_type.the_row (R E)

  abbrev pub Bases : RattleType
  Bases = base_type.the_row (R E)

  -- the one field of a row, which takes no bytes
  abbrev pub Marks : RattleType
  Marks = Struct (shape (row_type.the_type (R E)))

abbrev pub Spots : RattleType
Spots = spot_type.the_row

abbrev one_pointer : Shape
one_pointer = record { name = []; args = []; types = []; fields = RawPtr ∷ [] }

abbrev Pointers : RattleType
Pointers = Struct one_pointer

abbrev pub mark : Val
mark = vstruct (vcons (vstruct vnil) vnil)

pub mark_made : (E : El) {M : Type 1} {𝓤 : Ura M} (𝓛 : Logic 𝓤) → ent 𝓤 (emp 𝓤) (sem 𝓛 ((Marks E).own_val (tt, tt) (mark ∷ [])))
mark_made E 𝓛 = makes_shadow 𝓛 ((Marks E).own_val (tt, tt) (mark ∷ [])) (λ vss. (tt, ((λ uss. (tt, tt)), tt))) (
  (vstruct vnil ∷ [], tt),
  (refl, ((tt, (refl, tt)), tt)),
)

module _ {M : Type 1} {𝓤 : Ura M} {𝓛 : Logic 𝓤} {K : Type 0} {Γ : List (Item 𝓤)} {G : Goal 𝓤 𝓛.H} where
  pub word_had : K → (p : Ptr) (vs : List Val) → (vs ≡ word p ∷ [] → Seq K 𝓛 Γ G) → Seq K 𝓛 (‵ (Pointers.own_val (p, tt) vs) ∷ Γ) G
  word_had t p vs k = fpick t (λ vss. fsplit t $ feq_l t (λ all. fsplit t $ feq_l t (λ one. drop t $ k
      (subst (λ (ws : List Val). vs ≡ vstruct (of_list (ws ++ [])) ∷ []) one all))))

  pub word_made : K → (p : Ptr) → Step K 𝓛 (‵ (Pointers.own_val (p, tt) (word p ∷ [])) ∷ Γ) G Γ G
  word_made t p = step (λ s.
      nothing t $ feq_i t (List Val) (ptr_val p ∷ []) (ptr_val p ∷ []) refl $ fjoin t $ feq_i t (List Val) (word p ∷ []) (word p ∷ []) refl $ fjoin t $
      fpack t (Valss (RawPtr ∷ [])) (within one_pointer (p, tt) (word p ∷ [])) (ptr_val p ∷ [], tt) $ s)

  pub mark_had : K → (E : El) (vs : List Val) → (vs ≡ mark ∷ [] → Seq K 𝓛 Γ G) → Seq K 𝓛 (‵ ((Marks E).own_val (tt, tt) vs) ∷ Γ) G
  mark_had t E vs k = fpick t (λ vss. fsplit t $ feq_l t (λ all. fsplit t $ fpick t (λ uss. fsplit t $ feq_l t (λ one. drop t $ drop t $
      k (subst (λ (ws : List Val). vs ≡ vstruct (of_list (ws ++ [])) ∷ []) one all)))))

module _ {M : Type 1} {𝓤 : Ura M} {𝓛 : Logic 𝓤} {K : Type 0} {Γ : List (Item 𝓤)} where
  -- two facts that an `ensures` states
  pub says_both : K → {φ ψ : Type 0} {P : SProp 𝓤} → φ → ψ → Step K 𝓛 Γ (prop P) Γ (prop (sep 𝓤 P (sep 𝓤 (fact 𝓤 φ) (fact 𝓤 ψ))))
  says_both t {φ} {ψ} {P} x y = step (λ s. record {
    prf = via 𝓤 P s.prf (qed 𝓛 (raw P ∷ []) {P = sep 𝓤 P (sep 𝓤 (fact 𝓤 φ) (fact 𝓤 ψ))} (
        frame ! $ use0 𝓛 (raw (fact 𝓤 ψ)) (fact_i 𝓤 ψ (emp 𝓤) y) $ use0 𝓛 (raw (fact 𝓤 φ)) (fact_i 𝓤 φ (emp 𝓤) x) $ done !));
  })

module _ (Y : RattleType) (L : Laws Y) {M : Type 1} {𝓤 : Ura M} (𝓛 : Logic 𝓤) (x : Y.Denot) (b o : ℕ) where
  open 𝓛 use {H}

  -- a value in memory is one machine value of its type, and what that owns
  pub value_out : ent 𝓤 (sem 𝓛 (part_at (param 0 Y) full_share x b o))
      (ex 𝓤 (λ (v : Val). guard 𝓤 (Good (layout Y) v) (sep 𝓤 (H.at full_share (layout Y) b o v) (sem 𝓛 (Y.own_val x (v ∷ []))))))
  value_out =
      qed 𝓛 (‵ (part_at (param 0 Y) full_share x b o) ∷ []) ∵
      use1 𝓛 (some (λ (v : Val). ‵ (fat full_share (layout Y) b o v) ⊛ ‵ (Y.own_val x (v ∷ [])))) (part_out 𝓛 (param 0 Y) refl full_share x b o) $
      pick ! (λ v. split ! $ move ! (1 ∷ []) $ peeks ! (param 0 Y) (Is (param 0 Y)) (shows 𝓛 (param 0 Y)) x (v ∷ []) (λ is.
      show ! (λ (w : Val). guard 𝓤 (Good (layout Y) w) (sep 𝓤 (H.at full_share (layout Y) b o w) (sem 𝓛 (Y.own_val x (w ∷ []))))) v $
      check ! (((param_laws 0 Y L).lawful 𝓛).typed x (v ∷ []) is).0 $ move ! (1 ∷ 0 ∷ []) $ done !))

  pub value_in : (v : Val) → ent 𝓤 (sep 𝓤 (H.at full_share (layout Y) b o v) (sem 𝓛 (Y.own_val x (v ∷ [])))) (sem 𝓛 (part_at (param 0 Y) full_share x b o))
  value_in v = part_in 𝓛 (param 0 Y) refl full_share x b o v

alone : (τ : Ty) (vs : List Val) → Typed (τ ∷ []) vs → (v : Val) × ((vs ≡ v ∷ []) × Good τ v)
alone τ [] t = absurd t
alone τ (v ∷ []) t = (v, (refl, t.0))
alone τ (v ∷ w ∷ vs) t = absurd t.1

module _ (Y : RattleType) (L : Laws Y) {M : Type 1} {𝓤 : Ura M} {𝓛 : Logic 𝓤} {K : Type 0} {Γ : List (Item 𝓤)} {G : Goal 𝓤 𝓛.H} where
  -- a value that is passed is one machine value of its type
  pub tells : K → (x : Y.Denot) (vs : List Val) → ((v : Val) → vs ≡ v ∷ [] → Good (layout Y) v → Seq K 𝓛 (‵ (Y.own_val x (v ∷ [])) ∷ Γ) G) →
      Seq K 𝓛 (‵ (Y.own_val x vs) ∷ Γ) G
  tells t x vs k =
      peeks t (param 0 Y) (Is (param 0 Y)) (shows 𝓛 (param 0 Y)) x vs (λ is.
      let it = alone (layout Y) vs (((param_laws 0 Y L).lawful 𝓛).typed x vs is) in
      rewrite t 0 (λ (us : List Val). ‵ (Y.own_val x us)) it.1.0 refl $ k it.0 it.1.0 it.1.1)

abbrev pub three_val : Val → Val → Val → Val
three_val u v w = vstruct (vcons u (vcons v (vcons w vnil)))

pub three_of : {M : Type 1} {𝓤 : Ura M} (𝓛 : Logic 𝓤) (X Y Z : RattleType) (x : X.Denot) (y : Y.Denot) (z : Z.Denot) (u v w : Val)
    → ent 𝓤 (sep 𝓤 (sem 𝓛 (X.own_val x (u ∷ []))) (sep 𝓤 (sem 𝓛 (Y.own_val y (v ∷ []))) (sem 𝓛 (Z.own_val z (w ∷ [])))))
    (sem 𝓛 ((Tuple (X ∷ Y ∷ Z ∷ [])).own_val (x, y, z) (three_val u v w ∷ [])))
three_of 𝓛 X Y Z x y z u v w =
    qed 𝓛 (‵ (X.own_val x (u ∷ [])) ∷ ‵ (Y.own_val y (v ∷ [])) ∷ ‵ (Z.own_val z (w ∷ [])) ∷ []) ∵
    nothing ! $ move ! (3 ∷ 0 ∷ []) $ fjoin ! $ move ! (2 ∷ 0 ∷ []) $ fjoin ! $ move ! (1 ∷ 0 ∷ []) $ fjoin ! $
    feq_i ! (List Val) (three_val u v w ∷ []) (three_val u v w ∷ []) refl $ fjoin ! $
    fpack ! (Valss (X ∷ Y ∷ Z ∷ [])) (within (Declared.shape (tuple_type (X ∷ Y ∷ Z ∷ []))) (x, (y, (z, tt))) (three_val u v w ∷ [])) (
      u ∷ [],
      (v ∷ [], (w ∷ [], tt)),
    ) $ done !
