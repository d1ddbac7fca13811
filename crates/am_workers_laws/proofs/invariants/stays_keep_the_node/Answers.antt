use Rattle.am_workers_laws.proofs.Stands.{none_keep, stays_keep}
use Rattle.am_workers_laws.proofs.invariants.stays_keep_the_node.Goals as goal

pub returns-clause-stays : goal.returns-clause-stays
returns-clause-stays c = stays_keep

pub returns-clause-none : goal.returns-clause-none
returns-clause-none c = none_keep
