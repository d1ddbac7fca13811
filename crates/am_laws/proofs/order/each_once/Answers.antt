use Rattle.am_laws.proofs.Everywhere as laws
use Rattle.am_laws.proofs.order.each_once.Goals as goal

pub returns : goal.returns
returns c = laws.each_once
