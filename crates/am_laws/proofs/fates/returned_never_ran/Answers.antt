use Rattle.am_laws.proofs.Returned as laws
use Rattle.am_laws.proofs.fates.returned_never_ran.Goals as goal

pub returns : goal.returns
returns c = laws.returned_never_ran
