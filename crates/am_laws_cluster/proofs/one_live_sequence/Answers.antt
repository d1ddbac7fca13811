use Rattle.am_laws_cluster.proofs.Live as laws
use Rattle.am_laws_cluster.proofs.one_live_sequence.Goals as goal

pub returns : goal.returns
returns c = laws.one_live
