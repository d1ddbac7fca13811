-- What is so of all entries is so of each that is read behind its reference.
use Rattle.std.proofs.Common.{ℕ, zero, suc, ◌<◌, List, [], ◌∷◌, length, get_or, arith}
use Rattle.std.specs.Borrow.{Bor}
use Rattle.am_office_entries.specs.declared.Entry.{Entry}
use Rattle.am_office_entries.specs.Logged.Behind.{entries_behind}
use Rattle.am_model.specs.Layout.{AllAre}

pub all_behind : (P : Entry → Type 0) (xs : List (Bor Entry)) (i : ℕ) (d : Bor Entry) → AllAre P (entries_behind xs) → i < length xs → P (get_or xs i d).now
all_behind P [] i d all below = absurd (omega (arith, below))
all_behind P (x ∷ xs) zero d all below = all.0
all_behind P (x ∷ xs) (suc i) d all below = all_behind P xs i d all.1 (omega (arith, below))
