use Rattle.am_laws_runs.proofs.Calls.{calls_may_follow}
use Rattle.am_laws_runs.proofs.turns.calls_may_follow.Goals as goal

pub returns : goal.returns
returns c = calls_may_follow
