use Rattle.am_laws.proofs.Balance as laws
use Rattle.am_laws.proofs.fates.bounces_bounded.Goals as goal

pub returns : goal.returns
returns c = laws.bounces_bounded
