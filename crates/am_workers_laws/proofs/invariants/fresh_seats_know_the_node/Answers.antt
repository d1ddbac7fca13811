use Rattle.am_workers_laws.proofs.Fresh.{fresh_know}
use Rattle.am_workers_laws.proofs.invariants.fresh_seats_know_the_node.Goals as goal

pub returns : goal.returns
returns c = fresh_know
