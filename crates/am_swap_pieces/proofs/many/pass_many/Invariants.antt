use Rattle.std.proofs.Common.{◌≡◌, ◌-◌}
use Rattle.am_swap_image.specs.Reading.{many_at}
use Rattle.am_swap_pieces.specs.Answers.{behind}
use Rattle.am_swap_pieces.proofs.many.pass_many.Given as goal

abbrev pub invariant-loop-number : goal.invariant-loop-number
invariant-loop-number g l = behind (many_at (g.P.ImagePart.at l.id) (l.count - l.number) l.rest) ≡ behind (many_at (g.P.ImagePart.at l.id) l.count l.bytes)
