use Rattle.am_laws_runs.proofs.Soundness as soundness
use Rattle.am_laws_runs.proofs.drains.drains_rest.Goals as goal

pub returns : goal.returns
returns c = soundness.drains_rest
