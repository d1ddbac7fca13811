use Rattle.std.proofs.Common.{◌≡◌, filter, take}
use Rattle.am_lab_picture.specs.Messages.{leads}
use Rattle.am_lab_picture.proofs.messages.arrows_at.Given as goal

abbrev pub invariant-loop-arrow : goal.invariant-loop-arrow
invariant-loop-arrow l = l.made.items ≡ filter (leads l.rows) (take l.arrow-index l.arrows)
