use Rattle.am_laws_cluster.proofs.Bounced as laws
use Rattle.am_laws_cluster.proofs.endpoints.bounces_are_requeues.Goals as goal

pub returns : goal.returns
returns c = laws.bounces_are
