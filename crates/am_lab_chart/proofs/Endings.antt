-- Lists without their last elements.
use Rattle.std.proofs.Common.{◌≡◌, ℕ, List, [], ◌∷◌, ◌++◌, refl}

none_is_longer : (a : List ℕ) (x : ℕ) → (a ++ x ∷ [] ≡ []) → ⊥
none_is_longer [] x h = cc
none_is_longer (b ∷ a) x h = cc

rest : List ℕ → List ℕ
rest [] = []
rest (x ∷ xs) = xs

pub same_fronts : (a b : List ℕ) (x y : ℕ) → a ++ x ∷ [] ≡ b ++ y ∷ [] → a ≡ b
same_fronts [] [] x y h = refl
same_fronts [] (c ∷ b) x y h = let e : [] ≡ b ++ y ∷ [] = cc in absurd (none_is_longer b y (cc))
same_fronts (c ∷ a) [] x y h = let e : a ++ x ∷ [] ≡ [] = cc in absurd (none_is_longer a x e)
same_fronts (c ∷ a) (d ∷ b) x y h =
    let tails : a ++ x ∷ [] ≡ b ++ y ∷ [] = cc in
    let same : a ≡ b = same_fronts a b x y tails in
    cc
