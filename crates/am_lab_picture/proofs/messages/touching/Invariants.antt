use Rattle.std.proofs.Common.{◌≡◌, filter, take}
use Rattle.am_lab_picture.specs.Messages.{is_touching}
use Rattle.am_lab_picture.specs.declared.data.PlacedRow.{PlacedRow}
use Rattle.am_lab_picture.proofs.messages.touching.Given as goal

abbrev pub invariant-loop-placed : goal.invariant-loop-placed
invariant-loop-placed l = l.made.items ≡ filter (λ (placed : PlacedRow). is_touching l.serial placed.row) (take l.placed-index l.rows)
