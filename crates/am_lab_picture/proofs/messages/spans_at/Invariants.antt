use Rattle.std.proofs.Common.{◌≡◌, filter, take}
use Rattle.am_lab_picture.specs.Messages.{is_seen}
use Rattle.am_lab_picture.proofs.messages.spans_at.Given as goal

abbrev pub invariant-loop-span : goal.invariant-loop-span
invariant-loop-span g l = l.made.items ≡ filter (is_seen l.rows) (take l.span-index l.spans)
