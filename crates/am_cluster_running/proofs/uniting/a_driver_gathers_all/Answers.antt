use Rattle.am_cluster_running.proofs.Seated.{teams_gather}
use Rattle.am_cluster_running.proofs.uniting.a_driver_gathers_all.Goals as goal

pub returns : goal.returns
returns c = teams_gather
