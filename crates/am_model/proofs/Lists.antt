-- A list without its first element that passes, by its place.
use Rattle.std.proofs.Common.{◌≡◌, ℕ, suc, ◌+◌, Bool, true, false, cond, List, [], ◌∷◌, length, Some, None, refl, ap, ◌∙◌, arith, ltb}
use Rattle.std.specs.Prelude.{not}
use Rattle.std.specs.List.{remove, position, position_or_len}
use Rattle.am_model.specs.Choice.{without_first}

pub without_first-remove : {X : Type 0} (p : X → Bool) (xs : List X) → without_first p xs ≡ remove xs (position_or_len p xs)
without_first-remove p [] = refl
without_first-remove p (x ∷ xs) = by_test p x xs (p x) (without_first-remove p xs)
  where
    by_test : {X : Type 0} (p : X → Bool) (x : X) (xs : List X) (b : Bool) → without_first p xs ≡ remove xs (position_or_len p xs) →
        cond b xs (x ∷ without_first p xs) ≡ remove (x ∷ xs) (cond (not b) (1 + position_or_len p xs) 0)
    by_test p x xs true more = refl
    by_test p x xs false more = let e : 1 + position_or_len p xs ≡ suc (position_or_len p xs) = omega arith in rw e (ap (λ ys. x ∷ ys) more)

-- what `position` finds is the element that goes
pub without_first-position : {X : Type 0} (p : X → Bool) (xs : List X) (i : ℕ) → position p xs ≡ Some i → without_first p xs ≡ remove xs i
without_first-position p xs i e = without_first-remove p xs ∙ ap (remove xs) (at (ltb (position_or_len p xs) (length xs)) e)
  where
    at : (b : Bool) → cond b (Some (position_or_len p xs)) None ≡ Some i → position_or_len p xs ≡ i
    at true h = cc
    at false h = absurd (cc)
