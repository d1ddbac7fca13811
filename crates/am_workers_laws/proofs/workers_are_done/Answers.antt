use Rattle.am_workers_laws.proofs.Done.{workers_are_done}
use Rattle.am_workers_laws.proofs.workers_are_done.Goals as goal

pub returns : goal.returns
returns c = workers_are_done
