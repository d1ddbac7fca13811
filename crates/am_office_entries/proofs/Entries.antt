-- Entries behind references, one by one.
use Rattle.std.proofs.Common.{◌≡◌, ℕ, zero, suc, ◌+◌, ◌<◌, List, [], ◌∷◌, ◌++◌, length, take, get_or, refl, ap, arith, add-one}
use Rattle.std.specs.Borrow.{Bor}
use Rattle.am_office_entries.specs.declared.Entry.{Entry}
use Rattle.am_office_entries.specs.Logged.Behind.{entries_behind}

pub length_behind : (xs : List (Bor Entry)) → length (entries_behind xs) ≡ length xs
length_behind [] = refl
length_behind (x ∷ xs) = ap suc (length_behind xs)

pub behind_at : (xs : List (Bor Entry)) (i : ℕ) (d : Bor Entry) (e : Entry) → i < length xs → get_or (entries_behind xs) i e ≡ (get_or xs i d).now
behind_at [] i d e below = absurd (omega arith)
behind_at (x ∷ xs) zero d e below = refl
behind_at (x ∷ xs) (suc i) d e below = behind_at xs i d e (omega arith)

behind_suc : (xs : List (Bor Entry)) (i : ℕ) (d : Bor Entry) → i < length xs →
    take (suc i) (entries_behind xs) ≡ take i (entries_behind xs) ++ (get_or xs i d).now ∷ []
behind_suc [] i d below = absurd (omega arith)
behind_suc (x ∷ xs) zero d below = refl
behind_suc (x ∷ xs) (suc i) d below = ap (λ (l : List Entry). x.now ∷ l) (behind_suc xs i d (omega arith))

-- one entry more
pub behind_next : (xs : List (Bor Entry)) (i : ℕ) (d : Bor Entry) → i < length xs →
    take (i + 1) (entries_behind xs) ≡ take i (entries_behind xs) ++ (get_or xs i d).now ∷ []
behind_next xs i d below = rw add-one (behind_suc xs i d below)
