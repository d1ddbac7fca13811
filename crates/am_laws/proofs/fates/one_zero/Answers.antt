use Rattle.am_laws.proofs.Notices as laws
use Rattle.am_laws.proofs.fates.one_zero.Goals as goal

pub returns : goal.returns
returns c = laws.one_zero
