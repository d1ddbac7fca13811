use Rattle.am_laws_cluster.proofs.Arrived as laws
use Rattle.am_laws_cluster.proofs.endpoints.arrived_matches_received.Goals as goal

pub returns : goal.returns
returns c = laws.arrived_matches
