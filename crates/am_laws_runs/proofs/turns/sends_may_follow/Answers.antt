use Rattle.am_laws_runs.proofs.Sends.{sends_may_follow}
use Rattle.am_laws_runs.proofs.turns.sends_may_follow.Goals as goal

pub returns : goal.returns
returns c = sends_may_follow
