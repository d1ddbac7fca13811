-- One place is taken out of the row, put back, or seen; and room for an array is a row of empty places.
use Rattle.am_block_row.proofs.Steps.{◌≡◌, refl, ℕ, zero, suc, ◌+◌, ◌*◌, ◌<◌, arith, List, [], ◌∷◌, length, set, get_or, replicate, Ura, ent, sep, Fml, Lft}
use Rattle.am_block_row.proofs.Steps.{ftrue, fsep, froom, ty_array, Logic, sem, ‵, ◌⊛◌, ◌$◌, ◌∵◌, !, qed, by, move, keep, drop, use1, use2, split, rewrite}
use Rattle.am_block_row.proofs.Steps.{frame, fsplit, fjoin, done, Option, Some, None, type_size, El, R, el_x, elτ}
use native.Mathlib.Nat.{zero-mul, suc-mul}
use Rattle.am_block_row.specs.Ownership.{place, places, place_lent, places_lent}

module _ (E : El) where
  abbrev pub bytes : ℕ
  bytes = type_size (R E)

  abbrev pub Place : Type 0
  Place = Option (el_x E)

pub filled_within : {X : Type 0} (cs : List (Option X)) (i : ℕ) (x : X) → get_or cs i None ≡ Some x → i < length cs
filled_within [] i x e = cc
filled_within (c ∷ cs) zero x e = omega arith
filled_within (c ∷ cs) (suc i) x e = omega (arith, filled_within cs i x e)

module _ (E : El) {M : Type 1} {𝓤 : Ura M} (𝓛 : Logic 𝓤) (b : ℕ) where
  open 𝓛 use {H}

  abbrev s : ℕ
  s = bytes E

  abbrev at_place : ℕ → Place E → Fml
  at_place = place (R E) b

  abbrev at_places : ℕ → List (Place E) → Fml
  at_places = places (R E) b

  -- every place but the i-th
  abbrev pub Others : ℕ → List (Place E) → ℕ → Fml
  Others o [] i = ftrue
  Others o (c ∷ cs) zero = at_places (o + s) cs
  Others o (c ∷ cs) (suc i) = fsep (at_place o c) (Others (o + s) cs i)

  pub place_out : (cs : List (Place E)) (i o at : ℕ) → i < length cs → at ≡ i * s + o →
      ent 𝓤 (sem 𝓛 (at_places o cs)) (sep 𝓤 (sem 𝓛 (at_place at (get_or cs i None))) (sem 𝓛 (Others o cs i)))
  place_out [] i o at lt e = absurd (omega arith)
  place_out (c ∷ cs) zero o at lt e =
      let same : o ≡ at = omega (arith, zero-mul s) in
      qed 𝓛 (‵ (at_places o (c ∷ cs)) ∷ []) ∵ fsplit ! $ rewrite ! 0 (λ (k : ℕ). ‵ (at_place k c)) same refl $ done !
  place_out (c ∷ cs) (suc i) o at lt e =
      let here : at ≡ i * s + (o + s) = omega (arith, suc-mul i s) in
      qed 𝓛 (‵ (at_places o (c ∷ cs)) ∷ []) ∵ fsplit ! $ move ! (1 ∷ []) $
      use1 𝓛 (‵ (at_place at (get_or cs i None)) ⊛ ‵ (Others (o + s) cs i)) (place_out cs i (o + s) at (omega arith) here) $
      split ! $ move ! (2 ∷ 1 ∷ []) $ fjoin ! $ move ! (1 ∷ []) $ done !

  pub place_in : (cs : List (Place E)) (i o at : ℕ) → i < length cs → at ≡ i * s + o → (x : Place E) →
      ent 𝓤 (sep 𝓤 (sem 𝓛 (at_place at x)) (sem 𝓛 (Others o cs i))) (sem 𝓛 (at_places o (set cs i x)))
  place_in [] i o at lt e x = absurd (omega arith)
  place_in (c ∷ cs) zero o at lt e x =
      let same : at ≡ o = omega (arith, zero-mul s) in
      qed 𝓛 (‵ (at_place at x) ∷ ‵ (at_places (o + s) cs) ∷ []) ∵ rewrite ! 0 (λ (k : ℕ). ‵ (at_place k x)) same refl $ fjoin ! $ done !
  place_in (c ∷ cs) (suc i) o at lt e x =
      let here : at ≡ i * s + (o + s) = omega (arith, suc-mul i s) in
      qed 𝓛 (‵ (at_place at x) ∷ ‵ (Others o (c ∷ cs) (suc i)) ∷ []) ∵ move ! (1 ∷ []) $ fsplit ! $ move ! (2 ∷ 1 ∷ []) $
      use2 𝓛 (‵ (at_places (o + s) (set cs i x))) (place_in cs i (o + s) at (omega arith) here x) $ move ! (1 ∷ 0 ∷ []) $ fjoin ! $ done !

  pub place_seen : (κ : Lft) (cs : List (Place E)) (i o at : ℕ) → i < length cs → at ≡ i * s + o →
      ent 𝓤 (sem 𝓛 (places_lent (R E) b o cs κ)) (sem 𝓛 (place_lent (R E) b at (get_or cs i None) κ))
  place_seen κ [] i o at lt e = absurd (omega arith)
  place_seen κ (c ∷ cs) zero o at lt e =
      let same : o ≡ at = omega (arith, zero-mul s) in
      qed 𝓛 (‵ (places_lent (R E) b o (c ∷ cs) κ) ∷ []) ∵ fsplit ! $ rewrite ! 0 (λ (k : ℕ). ‵ (place_lent (R E) b k c κ)) same refl $ keep ! (0 ∷ []) $ done !
  place_seen κ (c ∷ cs) (suc i) o at lt e =
      let here : at ≡ i * s + (o + s) = omega (arith, suc-mul i s) in
      qed 𝓛 (‵ (places_lent (R E) b o (c ∷ cs) κ) ∷ []) ∵ fsplit ! $ drop ! $ by ! (place_seen κ cs i (o + s) at (omega arith) here)

  pub of_room : (n o : ℕ) → ent 𝓤 (H.room (ty_array (elτ E) n) b o) (sem 𝓛 (at_places o (replicate n None)))
  of_room zero o = qed 𝓛 (‵ (froom (ty_array (elτ E) 0) b o) ∷ []) ∵ keep ! [] $ done !
  of_room (suc n) o = qed 𝓛 (‵ (froom (ty_array (elτ E) (suc n)) b o) ∷ []) ∵
      use1 𝓛 (‵ (froom (elτ E) b o) ⊛ ‵ (froom (ty_array (elτ E) n) b (o + s))) (𝓛.laws.room_uncons (elτ E) n b o) $ split ! $
      use1 𝓛 (‵ (at_place o None)) (𝓛.laws.room-raw (elτ E) b o) $ frame ! $ by ! (of_room n (o + s))

  pub to_room : (n o : ℕ) → ent 𝓤 (sem 𝓛 (at_places o (replicate n None))) (H.room (ty_array (elτ E) n) b o)
  to_room zero o = 𝓛.laws.room_nil (elτ E) b o
  to_room (suc n) o = qed 𝓛 (‵ (at_place o None) ∷ ‵ (at_places (o + s) (replicate n None)) ∷ []) ∵
      use1 𝓛 (‵ (froom (elτ E) b o)) (𝓛.laws.raw-room (elτ E) b o) $ move ! (1 ∷ []) $
      use1 𝓛 (‵ (froom (ty_array (elτ E) n) b (o + s))) (to_room n (o + s)) $ move ! (1 ∷ []) $ by ! (𝓛.laws.room_cons (elτ E) n b o)
