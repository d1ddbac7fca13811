-- What holds of each element of a list, by place and in parts.
use Rattle.std.proofs.Common.{◌≡◌, ℕ, zero, suc, List, [], ◌∷◌, ◌++◌, Some, refl, subst}
use Rattle.std.specs.Prelude.{slice_get}
use Rattle.am_model.specs.Layout.{AllAre}

pub all_at : {X : Type 0} (P : X → Type 0) (xs : List X) (k : ℕ) (x : X) → AllAre P xs → slice_get xs k ≡ Some x → P x
all_at P [] k x h at = absurd (cc)
all_at P (y ∷ xs) zero x h at = let same : y ≡ x = cc in subst P same h.0
all_at P (y ∷ xs) (suc k) x h at = all_at P xs k x h.1 at

pub all_by_place : {X : Type 0} (P : X → Type 0) (xs : List X) → ((k : ℕ) (x : X) → slice_get xs k ≡ Some x → P x) → AllAre P xs
all_by_place P [] h = tt
all_by_place P (x ∷ xs) h = (h zero x refl, all_by_place P xs (λ k y at. h (suc k) y at))

pub all_append : {X : Type 0} (P : X → Type 0) (xs ys : List X) → AllAre P xs → AllAre P ys → AllAre P (xs ++ ys)
all_append P [] ys h k = k
all_append P (x ∷ xs) ys h k = (h.0, all_append P xs ys h.1 k)

pub all_push : {X : Type 0} (P : X → Type 0) (xs : List X) (x : X) → AllAre P xs → P x → AllAre P (xs ++ x ∷ [])
all_push P [] x h p = (p, tt)
all_push P (y ∷ xs) x h p = (h.0, all_push P xs x h.1 p)
