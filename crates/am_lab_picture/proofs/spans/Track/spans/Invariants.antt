use Rattle.std.proofs.Common.{◌≡◌, take}
use Rattle.am_lab_picture.proofs.spans.Track.spans.Given as goal

abbrev pub invariant-loop-span : goal.invariant-loop-span
invariant-loop-span g l = l.spans.items ≡ take l.span-index l.ended
