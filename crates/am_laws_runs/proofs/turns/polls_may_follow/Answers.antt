use Rattle.am_laws_runs.proofs.Enabled.{polls_may_follow}
use Rattle.am_laws_runs.proofs.turns.polls_may_follow.Goals as goal

pub returns : goal.returns
returns c = polls_may_follow
