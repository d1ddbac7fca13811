use Rattle.am_laws_cluster.proofs.Whole as laws
use Rattle.am_laws_cluster.proofs.cluster_holds.Goals as goal

pub returns : goal.returns
returns c = laws.cluster_holds
