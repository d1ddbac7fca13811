use Rattle.am_machine.proofs.Homes.{homes_none}
use Rattle.am_machine.proofs.interfaces.no_homes.Goals as goal

pub returns : goal.returns
returns c = homes_none
