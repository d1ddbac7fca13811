use Rattle.am_model_parts.proofs.Outcomes.{work_local}
use Rattle.am_model_parts.proofs.work_is_local.Goals as goal

pub returns : goal.returns
returns c = work_local
