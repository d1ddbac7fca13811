use Rattle.am_workers_laws.proofs.Keeps.{threads_go_on}
use Rattle.am_workers_laws.proofs.invariants.a_thread_goes_on.Goals as goal

pub returns : goal.returns
returns c = threads_go_on
