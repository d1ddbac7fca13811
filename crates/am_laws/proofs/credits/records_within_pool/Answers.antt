use Rattle.am_laws.proofs.Law as laws
use Rattle.am_laws.proofs.credits.records_within_pool.Goals as goal

pub returns : goal.returns
returns c = laws.records_within
