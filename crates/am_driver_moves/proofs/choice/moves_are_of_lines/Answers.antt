use Rattle.am_driver_moves.proofs.Chosen.{moves_of_lines}
use Rattle.am_driver_moves.proofs.choice.moves_are_of_lines.Goals as goal

pub returns : goal.returns
returns c = moves_of_lines
