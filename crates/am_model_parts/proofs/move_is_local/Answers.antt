use Rattle.am_model_parts.proofs.Moves.{move_local}
use Rattle.am_model_parts.proofs.move_is_local.Goals as goal

pub returns : goal.returns
returns c = move_local
