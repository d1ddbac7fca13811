use Rattle.am_workers_laws.proofs.EndsDone.{ends_are_a_phase}
use Rattle.am_workers_laws.proofs.ends_are_a_phase.Goals as goal

pub returns : goal.returns
returns c = ends_are_a_phase
