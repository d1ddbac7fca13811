use Rattle.std.proofs.Common.{◌≡◌, take}
use Rattle.am_office_entries.specs.Logged.Behind.{entries_behind}
use Rattle.am_job.specs.Words.Counts.{see_journal}
use Rattle.am_job.proofs.words.tally.Tally.see_behind.Given as goal

abbrev pub invariant-loop-entry : goal.invariant-loop-entry
invariant-loop-entry l = l.self ≡ see_journal l.fn.self (take l.entry-index (entries_behind l.entries))
