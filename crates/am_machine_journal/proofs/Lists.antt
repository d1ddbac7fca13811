-- Reads after a write.
use Rattle.std.specs.Prelude.{slice_set, slice_index_or}
use Rattle.std.proofs.Common.{◌≡◌, ℕ, zero, suc, ◌<◌, List, [], ◌∷◌, map, length, refl, ap, arith}

pub map_set : {X Y : Type 0} (f : X → Y) (xs : List X) (k : ℕ) (v : X) → map f (slice_set xs k v) ≡ slice_set (map f xs) k (f v)
map_set f [] k v = refl
map_set f (x ∷ xs) zero v = refl
map_set f (x ∷ xs) (suc k) v = ap (λ ys. f x ∷ ys) (map_set f xs k v)

-- what is written is what stands there
pub set_same : {X : Type 0} (xs : List X) (k : ℕ) (v d : X) → v ≡ slice_index_or xs k d → k < length xs → slice_set xs k v ≡ xs
set_same [] k v d is lt = refl
set_same (x ∷ xs) zero v d is lt = ap (λ y. y ∷ xs) is
set_same (x ∷ xs) (suc k) v d is lt = ap (λ ys. x ∷ ys) (set_same xs k v d is (omega (arith, lt)))

pub index_set : {X : Type 0} (xs : List X) (k : ℕ) (v d : X) → k < length xs → slice_index_or (slice_set xs k v) k d ≡ v
index_set [] k v d lt = absurd (omega (arith, lt))
index_set (x ∷ xs) zero v d lt = refl
index_set (x ∷ xs) (suc k) v d lt = index_set xs k v d (omega (arith, lt))

pub index_map : {X Y : Type 0} (f : X → Y) (xs : List X) (k : ℕ) (d : X) (e : Y) → k < length xs → slice_index_or (map f xs) k e ≡ f (slice_index_or xs k d)
index_map f [] k d e lt = absurd (omega (arith, lt))
index_map f (x ∷ xs) zero d e lt = refl
index_map f (x ∷ xs) (suc k) d e lt = index_map f xs k d e (omega (arith, lt))
