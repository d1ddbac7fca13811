use Rattle.std.proofs.Common.{◌≡◌, filter, take}
use Rattle.am_lab_picture.specs.Messages.{is_crossed}
use Rattle.am_lab_picture.proofs.messages.crosses_at.Given as goal

abbrev pub invariant-loop-cross : goal.invariant-loop-cross
invariant-loop-cross l = l.made.items ≡ filter (is_crossed l.rows) (take l.cross-index l.crosses)
