use Rattle.am_workers_laws.proofs.Makers.{workers_make_a_phase}
use Rattle.am_workers_laws.proofs.phases.workers_make_a_phase.Goals as goal

pub returns : goal.returns
returns c = workers_make_a_phase
