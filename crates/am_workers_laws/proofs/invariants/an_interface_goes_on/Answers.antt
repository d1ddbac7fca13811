use Rattle.am_workers_laws.proofs.Receipts.{interfaces_go_on}
use Rattle.am_workers_laws.proofs.invariants.an_interface_goes_on.Goals as goal

pub returns : goal.returns
returns c = interfaces_go_on
