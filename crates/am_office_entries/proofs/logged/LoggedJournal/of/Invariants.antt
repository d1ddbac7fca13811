use Rattle.std.proofs.Common.{◌≡◌, take}
use Rattle.am_office_entries.proofs.logged.LoggedJournal.of.Given as goal

abbrev pub invariant-loop-entry : goal.invariant-loop-entry
invariant-loop-entry l = l.journal ≡ take l.entry-index l.entries
