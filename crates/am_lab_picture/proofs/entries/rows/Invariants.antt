use Rattle.std.proofs.Common.{◌≡◌, map, take}
use Rattle.am_lab_picture.specs.Rows.{row}
use Rattle.am_lab_picture.proofs.entries.rows.Given as goal

abbrev pub invariant-loop-entry : goal.invariant-loop-entry
invariant-loop-entry l = l.made.items ≡ map (row l.journal) (take l.entry-index l.shown)
