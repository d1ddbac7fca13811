use Rattle.am_model_parts.proofs.Granting.{work_granted, work_keeps}
use Rattle.am_model_parts.proofs.work_is_granted.Goals as goal

pub returns-clause-granted : goal.returns-clause-granted
returns-clause-granted c = work_granted

pub returns-clause-order : goal.returns-clause-order
returns-clause-order c = work_keeps
