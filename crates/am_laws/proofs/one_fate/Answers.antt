use Rattle.am_laws.proofs.OneFate as laws
use Rattle.am_laws.proofs.one_fate.Goals as goal

pub returns : goal.returns
returns c = laws.one_fate
