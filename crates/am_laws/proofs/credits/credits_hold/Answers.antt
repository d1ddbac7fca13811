use Rattle.am_laws.proofs.Law as laws
use Rattle.am_laws.proofs.credits.credits_hold.Goals as goal

pub returns : goal.returns
returns c = laws.credits_hold
