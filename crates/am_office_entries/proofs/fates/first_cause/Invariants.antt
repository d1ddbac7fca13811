use Rattle.std.proofs.Common.{◌≡◌, [], take}
use Rattle.am_office_entries.specs.Fates.{causes_of}
use Rattle.am_office_entries.proofs.fates.first_cause.Given as goal

abbrev pub invariant-loop-entry : goal.invariant-loop-entry
invariant-loop-entry l = causes_of (take l.entry-index l.entries) l.serial ≡ []
