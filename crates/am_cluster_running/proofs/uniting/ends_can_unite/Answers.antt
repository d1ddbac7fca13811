use Rattle.am_cluster_running.proofs.Unite.{ends_unite}
use Rattle.am_cluster_running.proofs.uniting.ends_can_unite.Goals as goal

pub returns : goal.returns
returns c = ends_unite
