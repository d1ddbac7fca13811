-- Elements of lists by their places.
use Rattle.std.specs.Prelude.{slice_get, slice_index_or, slice_set}
use Rattle.std.proofs.Common.{◌≡◌, ◌≢◌, ◌⊎◌, inl, inr, ⊎_elim, ℕ, zero, suc, ◌<◌, Some, List, [], ◌∷◌, ◌++◌, length, refl, sym, ap, ◌∙◌, arith}

module _ {X : Type 0} where
  pub got_low : (xs : List X) (k : ℕ) (x : X) → slice_get xs k ≡ Some x → k < length xs
  got_low [] k x h = absurd (cc)
  got_low (y ∷ xs) zero x h = omega arith
  got_low (y ∷ xs) (suc k) x h = let less = got_low xs k x h in omega (arith, less)

  pub got_some : (xs : List X) (k : ℕ) → k < length xs → (x : X) × (slice_get xs k ≡ Some x)
  got_some [] k h = absurd (omega (arith, h))
  got_some (y ∷ xs) zero h = (y, refl)
  got_some (y ∷ xs) (suc k) h = got_some xs k (omega (arith, h))

  pub got_one : (xs : List X) (k : ℕ) (x y : X) → slice_get xs k ≡ Some x → slice_get xs k ≡ Some y → x ≡ y
  got_one xs k x y a b = let e : Some x ≡ Some y = sym a ∙ b in (cc)

  pub got_push : (xs : List X) (y : X) (k : ℕ) (x : X) → slice_get (xs ++ y ∷ []) k ≡ Some x → (slice_get xs k ≡ Some x) ⊎ ((k ≡ length xs) × (x ≡ y))
  got_push [] y zero x h = inr (refl, cc)
  got_push [] y (suc k) x h = absurd (cc)
  got_push (z ∷ xs) y zero x h = inl h
  got_push (z ∷ xs) y (suc k) x h = ⊎_elim (λ here. inl here) (λ (last : (k ≡ length xs) × (x ≡ y)). inr (ap suc last.0, last.1)) (got_push xs y k x h)

  pub got_last : (xs ys : List X) (y : X) → slice_get ((xs ++ y ∷ []) ++ ys) (length xs) ≡ Some y
  got_last [] ys y = refl
  got_last (x ∷ xs) ys y = got_last xs ys y

  pub set_length : (xs : List X) (k : ℕ) (y : X) → length (slice_set xs k y) ≡ length xs
  set_length [] k y = refl
  set_length (x ∷ xs) zero y = refl
  set_length (x ∷ xs) (suc k) y = ap suc (set_length xs k y)

  pub set_here : (xs : List X) (k : ℕ) (x y : X) → slice_get (slice_set xs k y) k ≡ Some x → x ≡ y
  set_here [] k x y h = absurd (cc)
  set_here (z ∷ xs) zero x y h = cc
  set_here (z ∷ xs) (suc k) x y h = set_here xs k x y h

  pub set_there : (xs : List X) (k j : ℕ) (y : X) → j ≢ k → slice_get (slice_set xs k y) j ≡ slice_get xs j
  set_there [] k j y h = refl
  set_there (x ∷ xs) zero zero y h = absurd (h refl)
  set_there (x ∷ xs) zero (suc j) y h = refl
  set_there (x ∷ xs) (suc k) zero y h = refl
  set_there (x ∷ xs) (suc k) (suc j) y h = set_there xs k j y (λ same. h (ap suc same))

  pub index_got : (xs : List X) (k : ℕ) (d : X) → k < length xs → slice_get xs k ≡ Some (slice_index_or xs k d)
  index_got [] k d h = absurd (omega (arith, h))
  index_got (x ∷ xs) zero d h = refl
  index_got (x ∷ xs) (suc k) d h = index_got xs k d (omega (arith, h))
