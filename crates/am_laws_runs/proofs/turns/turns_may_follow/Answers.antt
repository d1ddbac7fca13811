use Rattle.am_laws_runs.proofs.Turning.{turns_may_follow}
use Rattle.am_laws_runs.proofs.turns.turns_may_follow.Goals as goal

pub returns : goal.returns
returns c = turns_may_follow
