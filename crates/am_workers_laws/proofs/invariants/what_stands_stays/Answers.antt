use Rattle.am_workers_laws.proofs.Stands.{stands_on}
use Rattle.am_workers_laws.proofs.invariants.what_stands_stays.Goals as goal

pub returns : goal.returns
returns c = stands_on
