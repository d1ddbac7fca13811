use Rattle.std.proofs.Common.{◌≡◌, map, take}
use Rattle.am_lab_shiviz.specs.Happenings.{happening}
use Rattle.am_lab_shiviz.proofs.entries.happenings.Given as goal

abbrev pub invariant-loop-entry : goal.invariant-loop-entry
invariant-loop-entry l = l.made.items ≡ map (happening l.ends l.journal) (take l.entry-index l.entries)
