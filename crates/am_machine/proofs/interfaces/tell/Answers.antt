use Rattle.std.proofs.Common.{rules}
use Rattle.am_machine.proofs.Homes.{homes_told}
use Rattle.am_machine.proofs.interfaces.tell.Goals as goal

pub returns : goal.returns
returns c before are = homes_told before c.args.line.now c.args.homes.now c.first_told.result are (search rules) c.first_told.ensures
