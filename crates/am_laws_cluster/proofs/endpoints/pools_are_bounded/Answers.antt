use Rattle.am_laws_cluster.proofs.Pools as laws
use Rattle.am_laws_cluster.proofs.endpoints.pools_are_bounded.Goals as goal

pub returns : goal.returns
returns c = laws.pools_bounded
