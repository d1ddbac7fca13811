use Rattle.am_laws_runs.proofs.Drained.{empty_is_good_phase}
use Rattle.am_laws_runs.proofs.empty_is_good_phase.Goals as goal

pub returns : goal.returns
returns c = empty_is_good_phase
