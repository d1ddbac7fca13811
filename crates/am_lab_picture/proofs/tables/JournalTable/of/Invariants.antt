use Rattle.std.proofs.Common.{take}
use Rattle.am_lab_picture.specs.Tables.{AreTables}
use Rattle.am_lab_picture.proofs.tables.JournalTable.of.Given as goal

abbrev pub invariant-loop-place : goal.invariant-loop-place
invariant-loop-place l = AreTables l.table (take l.place l.entries)
