-- A walk over a journal, one entry more.
use Rattle.std.proofs.Common.{◌≡◌, ℕ, ◌+◌, ◌<◌, List, [], ◌∷◌, ◌++◌, length, take, get_or, sym, ap, ◌∙◌, subst, append_assoc}
use Rattle.std.specs.Borrow.{Bor}
use Rattle.std.specs.List.{flat_map}
use Rattle.am_office_entries.specs.declared.Entry.{Entry}
use Rattle.am_office_entries.specs.Logged.Behind.{entries_behind}
use Rattle.am_office_entries.proofs.Entries.{behind_next}
use Rattle.am_office_text.specs.EntryLines.Lines.{line_of}
use Rattle.am_office_report.proofs.Printing.{lines_next}

pub lines_walked : (xs : List (Bor Entry)) (i : ℕ) (d : Bor Entry) (first old new : List ℕ) → i < length xs →
    old ≡ first ++ flat_map line_of (take i (entries_behind xs)) → new ≡ old ++ line_of (get_or xs i d).now →
    new ≡ first ++ flat_map line_of (take (i + 1) (entries_behind xs))
lines_walked xs i d first old new below before step =
    step ∙ ap (λ (l : List ℕ). l ++ line_of (get_or xs i d).now) before
    ∙ append_assoc first (flat_map line_of (take i (entries_behind xs))) (line_of (get_or xs i d).now)
    ∙ ap (λ (l : List ℕ). first ++ l) (sym (lines_next xs i d below))

-- what holds of some entries and one more holds of one entry more
pub walked : (P : List Entry → Type 0) (xs : List (Bor Entry)) (i : ℕ) (d : Bor Entry) → i < length xs →
    P (take i (entries_behind xs) ++ (get_or xs i d).now ∷ []) → P (take (i + 1) (entries_behind xs))
walked P xs i d below p = subst P (sym (behind_next xs i d below)) p
