-- One element more at the end of a list.
use Rattle.std.specs.Prelude.{slice_get}
use Rattle.std.proofs.Common.{◌≡◌, ⊎_elim, ℕ, Some, List, [], ◌∷◌, ◌++◌, length, sym, ◌∙◌, subst}
use Rattle.am_lemmas.proofs.Lists.{slice_get-push_cases}

-- what holds of each by its place, and of the next
pub each_more : {X : Type 0} (P : ℕ → X → Type 0) (xs : List X) (y : X) (n : ℕ) → length xs ≡ n → ((k : ℕ) (x : X) → slice_get xs k ≡ Some x → P k x) → P n y →
    (k : ℕ) (x : X) → slice_get (xs ++ y ∷ []) k ≡ Some x → P k x
each_more {X} P xs y n len old new k x h =
    ⊎_elim
    (λ (here : slice_get xs k ≡ Some x). old k x here)
    (λ (last : (k ≡ length xs) × (x ≡ y)). subst (λ (w : X). P k w) (sym last.1) (subst (λ (m : ℕ). P m y) (sym (last.0 ∙ len)) new))
    (slice_get-push_cases xs y k x h)
