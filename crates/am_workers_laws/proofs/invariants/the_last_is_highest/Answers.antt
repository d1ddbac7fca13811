use Rattle.am_workers_laws.proofs.Stands.{above_last}
use Rattle.am_workers_laws.proofs.invariants.the_last_is_highest.Goals as goal

pub returns : goal.returns
returns c = above_last
