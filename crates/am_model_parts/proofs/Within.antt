-- What is counted and found among the elements that pass, where all that counts passes.
use Rattle.std.proofs.Common.{◌≡◌, ℕ, Bool, true, false, cond, List, [], ◌∷◌, ◌++◌, Some, reverse, refl, sym, ap, ◌∙◌, arith}
use Rattle.std.specs.List.{filter, find, count_by}
use Rattle.std.proofs.lemmas.List.{append-nil, reverse-append}
use Rattle.std.proofs.lemmas.List.Elements.{filter-append}
use Rattle.std.proofs.lemmas.List.Sums.{sum_by-cons}

pub count_within : {X : Type 0} (p q : X → Bool) → ((x : X) → p x ≡ true → q x ≡ true) → (xs : List X) → count_by p (filter q xs) ≡ count_by p xs
count_within p q within [] = refl
count_within p q within (x ∷ xs) = by_tests (p x) (q x) refl refl (count_within p q within xs)
  where
    by_tests : (b t : Bool) → p x ≡ b → q x ≡ t → count_by p (filter q xs) ≡ count_by p xs →
        count_by p (cond t (x ∷ filter q xs) (filter q xs)) ≡ count_by p (x ∷ xs)
    by_tests b true is on more = omega (arith, more, sum_by-cons (λ y. cond (p y) 1 0) x xs, sum_by-cons (λ y. cond (p y) 1 0) x (filter q xs))
    by_tests true false is on more = absurd (let bad : q x ≡ true = within x is in cc)
    by_tests false false is on more = omega (arith, more, sum_by-cons (λ y. cond (p y) 1 0) x xs, ap {B = ℕ} (λ b. cond b 1 0) is)

pub find_within : {X : Type 0} (p q : X → Bool) → ((x : X) → p x ≡ true → q x ≡ true) → (xs : List X) → find p (filter q xs) ≡ find p xs
find_within p q within [] = refl
find_within p q within (x ∷ xs) = by_tests (p x) (q x) refl refl (find_within p q within xs)
  where
    by_tests : (b t : Bool) → p x ≡ b → q x ≡ t → find p (filter q xs) ≡ find p xs →
        find p (cond t (x ∷ filter q xs) (filter q xs)) ≡ cond b (Some x) (find p xs)
    by_tests true true is on more = ap (λ b. cond b (Some x) (find p (filter q xs))) is
    by_tests false true is on more = ap (λ b. cond b (Some x) (find p (filter q xs))) is ∙ more
    by_tests true false is on more = absurd (let bad : q x ≡ true = within x is in cc)
    by_tests false false is on more = more

pub filter-reverse : {X : Type 0} (q : X → Bool) (xs : List X) → filter q (reverse xs) ≡ reverse (filter q xs)
filter-reverse q [] = refl
filter-reverse q (x ∷ xs) =
    ap (filter q) (reverse-append (x ∷ []) xs) ∙ filter-append q (reverse xs) (x ∷ []) ∙ ap (λ ys. ys ++ filter q (x ∷ [])) (filter-reverse q xs)
    ∙ by_test (q x)
  where
    by_test : (t : Bool) → reverse (filter q xs) ++ cond t (x ∷ []) [] ≡ reverse (cond t (x ∷ filter q xs) (filter q xs))
    by_test true = sym (reverse-append (x ∷ []) (filter q xs))
    by_test false = append-nil (reverse (filter q xs))
