use Rattle.am_laws_runs.proofs.Enabled.{time_outs_may_follow}
use Rattle.am_laws_runs.proofs.turns.time_outs_may_follow.Goals as goal

pub returns : goal.returns
returns c = time_outs_may_follow
