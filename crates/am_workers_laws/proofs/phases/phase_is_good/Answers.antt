use Rattle.am_workers_laws.proofs.Phase.{phase_is_good}
use Rattle.am_workers_laws.proofs.phases.phase_is_good.Goals as goal

pub returns : goal.returns
returns c = phase_is_good
