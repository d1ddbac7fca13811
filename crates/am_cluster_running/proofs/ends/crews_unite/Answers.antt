use Rattle.am_cluster_running.proofs.Crews.{crews_unite}
use Rattle.am_cluster_running.proofs.ends.crews_unite.Goals as goal

pub returns : goal.returns
returns c = crews_unite
