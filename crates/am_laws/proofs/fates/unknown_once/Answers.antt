use Rattle.am_laws.proofs.Balance as laws
use Rattle.am_laws.proofs.fates.unknown_once.Goals as goal

pub returns : goal.returns
returns c = laws.unknown_once
