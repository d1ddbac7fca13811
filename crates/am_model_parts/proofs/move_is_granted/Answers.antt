use Rattle.am_model_parts.proofs.Granting.{move_granted, move_keeps}
use Rattle.am_model_parts.proofs.move_is_granted.Goals as goal

pub returns-clause-granted : goal.returns-clause-granted
returns-clause-granted c = move_granted

pub returns-clause-order : goal.returns-clause-order
returns-clause-order c = move_keeps
