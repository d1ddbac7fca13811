-- The words of a journal's entries, one entry after the other.
use Rattle.std.proofs.Common.{◌≡◌, ℕ, ◌+◌, ◌<◌, List, [], ◌∷◌, ◌++◌, length, take, get_or, sym, ap, ◌∙◌}
use Rattle.std.specs.Borrow.{Bor}
use Rattle.std.proofs.lemmas.List.Sums.{fold-append}
use Rattle.am_office_entries.specs.declared.Entry.{Entry}
use Rattle.am_office_entries.specs.Logged.Behind.{entries_behind}
use Rattle.am_office_entries.proofs.Entries.{behind_next}
use Rattle.am_job.specs.Words.Counts.{Counted, see, see_journal, word_run}

-- one entry more
seen_more : (old : Counted) (past : List Entry) (x : Entry) → see_journal old (past ++ x ∷ []) ≡ see (see_journal old past) (word_run x)
seen_more old past x = fold-append (λ (so_far : Counted) (x : Entry). see so_far (word_run x)) old past (x ∷ [])

-- and one more behind references
pub next_seen : (old : Counted) (xs : List (Bor Entry)) (i : ℕ) (d : Bor Entry) (mid new : Counted) → i < length xs
    → mid ≡ see_journal old (take i (entries_behind xs)) → new ≡ see mid (word_run (get_or xs i d).now) → new ≡ see_journal old (take (i + 1) (entries_behind xs))
next_seen old xs i d mid new below so_far step =
    step ∙ ap (λ (c : Counted). see c (word_run (get_or xs i d).now)) so_far
    ∙ sym (ap (see_journal old) (behind_next xs i d below) ∙ seen_more old (take i (entries_behind xs)) (get_or xs i d).now)
