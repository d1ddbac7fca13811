use Rattle.am_laws_cluster.proofs.Open as laws
use Rattle.am_laws_cluster.proofs.endpoints.waiting_is_open.Goals as goal

pub returns : goal.returns
returns c = laws.waiting_open
