-- One item more in a loop that appends what each item gives.
use Rattle.std.proofs.Common.{◌≡◌, ℕ, ◌+◌, ◌<◌, List, [], ◌∷◌, ◌++◌, drop, get_or, length, map, take, ap, sym, ◌∙◌, append_assoc}
use Rattle.std.proofs.lemmas.List.{drop_more, map_more, take_more}
use Rattle.am_lemmas.specs.Numbered.{numbered}

-- numbered items: what is made, with what is left to make, stays the same
pub one_more : {X Y : Type 0} (give : ℕ → X → List Y) (xs : List X) (number i : ℕ) (d : X) (made new all : List Y) → i < length xs →
    made ++ numbered give number (drop i xs) ≡ all → new ≡ made ++ give number (get_or xs i d) →
    new ++ numbered give (number + 1) (drop (i + 1) xs) ≡ all
one_more {X} {Y} give xs number i d made new all less stands appended =
    let left : List Y = numbered give (number + 1) (drop (i + 1) xs) in
    ap (λ (t : List Y). t ++ left) appended
    ∙ append_assoc made (give number (get_or xs i d)) left
    ∙ sym (ap (λ (ys : List X). made ++ numbered give number ys) (drop_more xs i d less))
    ∙ stands

-- a value for each item
pub one_mapped : {X Y : Type 0} (f : X → Y) (xs : List X) (i : ℕ) (d : X) (y : Y) (made new : List Y) → i < length xs →
    made ≡ map f (take i xs) → y ≡ f (get_or xs i d) → new ≡ made ++ y ∷ [] → new ≡ map f (take (i + 1) xs)
one_mapped {X} {Y} f xs i d y made new less stands at appended =
    appended
    ∙ ap (λ (t : List Y). t ++ y ∷ []) stands
    ∙ ap (λ (z : Y). map f (take i xs) ++ z ∷ []) at
    ∙ sym (map_more f xs i d less)

-- the items themselves
pub one_copied : {X : Type 0} (xs : List X) (i : ℕ) (d y : X) (made new : List X) → i < length xs → made ≡ take i xs → y ≡ get_or xs i d →
    new ≡ made ++ y ∷ [] → new ≡ take (i + 1) xs
one_copied {X} xs i d y made new less stands at appended =
    appended
    ∙ ap (λ (t : List X). t ++ y ∷ []) stands
    ∙ ap (λ (z : X). take i xs ++ z ∷ []) at
    ∙ sym (take_more xs i d less)
