use Rattle.am_laws_runs.proofs.Soundness as soundness
use Rattle.am_laws_runs.proofs.drains.drains_follow.Goals as goal

pub returns : goal.returns
returns c = soundness.drains_follow
