use Rattle.am_laws_cluster.proofs.Arrived as laws
use Rattle.am_laws_cluster.proofs.endpoints.received_tag_matches.Goals as goal

pub returns : goal.returns
returns c = laws.received_tags
