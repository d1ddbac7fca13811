-- Texts put one behind the other.
use Rattle.std.proofs.Common.{◌≡◌, ℕ, zero, suc, ◌+◌, ◌<◌, List, [], ◌∷◌, ◌++◌, get_or, length, take, Result, Ok, Err, OnOk, sym, ap, ◌∙◌}
use Rattle.std.proofs.Common.{append_assoc, arith}
use Rattle.std.specs.List.{AllByRecursion, flat_map}
use Rattle.std.proofs.lemmas.List.{append-nil}

-- two texts put one behind the other
pub both_put : {A E : Type 0} (r : Result A E) (new mid old a b : List ℕ) → mid ≡ old ++ a → OnOk r (new ≡ mid ++ b) → OnOk r (new ≡ old ++ (a ++ b))
both_put (Ok x) new mid old a b e h = h ∙ ap (λ (m : List ℕ). m ++ b) e ∙ append_assoc old a b
both_put (Err x) new mid old a b e h = tt

-- one element's text behind those of the elements before it
one_more : {X : Type 0} (f : X → List ℕ) (xs : List X) (i : ℕ) (d : X) → i < length xs → flat_map f (take (i + 1) xs) ≡ flat_map f (take i xs) ++ f (get_or xs i d)
one_more f [] i d below = absurd (omega (arith, below))
one_more f (x ∷ xs) zero d below = append-nil (f x)
one_more f (x ∷ xs) (suc i) d below =
    let next : suc i + 1 ≡ suc (i + 1) = omega arith in
    rw next (ap (λ (l : List ℕ). f x ++ l) (one_more f xs i d (omega (arith, below))) ∙ sym (append_assoc (f x) (flat_map f (take i xs)) (f (get_or xs i d))))

pub more_put : {X : Type 0} (f : X → List ℕ) (xs : List X) (i : ℕ) (d : X) (old out new : List ℕ) → i < length xs → out ≡ old ++ flat_map f (take i xs) →
    new ≡ out ++ f (get_or xs i d) → new ≡ old ++ flat_map f (take (i + 1) xs)
more_put f xs i d old out new below so put =
    put
    ∙ ap (λ (o : List ℕ). o ++ f (get_or xs i d)) so
    ∙ append_assoc old (flat_map f (take i xs)) (f (get_or xs i d))
    ∙ ap (λ (o : List ℕ). old ++ o) (sym (one_more f xs i d below))

-- what holds of each element holds of this one
pub each_there : {X : Type 0} (P : X → Type 0) (xs : List X) (i : ℕ) (d : X) → i < length xs → AllByRecursion P xs → P (get_or xs i d)
each_there P [] i d below each = absurd (omega (arith, below))
each_there P (x ∷ xs) zero d below each = each.0
each_there P (x ∷ xs) (suc i) d below each = each_there P xs i d (omega (arith, below)) each.1
