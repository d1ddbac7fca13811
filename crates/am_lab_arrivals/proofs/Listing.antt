-- What each element of a list gives, one after the other.
use Rattle.std.proofs.Common.{◌≡◌, ℕ, zero, suc, ◌+◌, ◌<◌, List, [], ◌∷◌, ◌++◌, get_or, length, take, sym, ap, ◌∙◌}
use Rattle.std.proofs.Common.{append_assoc, arith}
use Rattle.std.proofs.lemmas.List.{append-nil}
use Rattle.std.specs.List.{flat_map}

one_put : {X Y : Type 0} (f : X → List Y) (xs : List X) (i : ℕ) (d : X) → i < length xs → flat_map f (take (i + 1) xs) ≡ flat_map f (take i xs) ++ f (get_or xs i d)
one_put f [] i d below = absurd (omega (arith, below))
one_put f (x ∷ xs) zero d below = append-nil (f x)
one_put {Y = Y} f (x ∷ xs) (suc i) d below =
    let next : suc i + 1 ≡ suc (i + 1) = omega arith in
    rw next (ap (λ (l : List Y). f x ++ l) (one_put f xs i d (omega (arith, below))) ∙ sym (append_assoc (f x) (flat_map f (take i xs)) (f (get_or xs i d))))

-- one element more, behind those before it
pub put_on : {X Y : Type 0} (f : X → List Y) (xs : List X) (i : ℕ) (d : X) (old out new : List Y) → i < length xs → out ≡ old ++ flat_map f (take i xs) →
    new ≡ out ++ f (get_or xs i d) → new ≡ old ++ flat_map f (take (i + 1) xs)
put_on {Y = Y} f xs i d old out new below so put =
    put
    ∙ ap (λ (o : List Y). o ++ f (get_or xs i d)) so
    ∙ append_assoc old (flat_map f (take i xs)) (f (get_or xs i d))
    ∙ ap (λ (o : List Y). old ++ o) (sym (one_put f xs i d below))
