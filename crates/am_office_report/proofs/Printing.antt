-- The lines of entries, one by one.
use Rattle.std.proofs.Common.{◌≡◌, ℕ, ◌+◌, ◌<◌, List, ◌∷◌, [], ◌++◌, length, take, get_or, ap, ◌∙◌}
use Rattle.std.specs.Borrow.{Bor}
use Rattle.std.specs.List.{flat_map}
use Rattle.std.proofs.lemmas.Grind.{flat_map-append}
use Rattle.std.proofs.lemmas.List.{append-nil}
use Rattle.am_office_entries.specs.declared.Entry.{Entry}
use Rattle.am_office_entries.specs.Logged.Behind.{entries_behind}
use Rattle.am_office_entries.proofs.Entries.{behind_next}
use Rattle.am_office_text.specs.EntryLines.Lines.{line_of}

pub lines_next : (xs : List (Bor Entry)) (i : ℕ) (d : Bor Entry) → i < length xs →
    flat_map line_of (take (i + 1) (entries_behind xs)) ≡ flat_map line_of (take i (entries_behind xs)) ++ line_of (get_or xs i d).now
lines_next xs i d below =
    let one : Entry = (get_or xs i d).now in
    ap (flat_map line_of) (behind_next xs i d below) ∙ flat_map-append line_of (take i (entries_behind xs)) (one ∷ [])
    ∙ ap (λ (l : List ℕ). flat_map line_of (take i (entries_behind xs)) ++ l) (append-nil (line_of one))
