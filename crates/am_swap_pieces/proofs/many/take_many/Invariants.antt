use Rattle.std.proofs.Common.{◌≡◌, ◌-◌}
use Rattle.am_swap_image.specs.Reading.{many_at}
use Rattle.am_swap_pieces.proofs.Loop.{with_front}
use Rattle.am_swap_pieces.proofs.many.take_many.Given as goal

abbrev pub invariant-loop-number : goal.invariant-loop-number
invariant-loop-number g l = with_front l.parts.items (many_at (g.P.ImagePart.at l.id) (l.count - l.number) l.rest) ≡ many_at (g.P.ImagePart.at l.id) l.count l.bytes
