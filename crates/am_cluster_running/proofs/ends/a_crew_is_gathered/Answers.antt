use Rattle.am_cluster_running.proofs.Crews.{crews_gather}
use Rattle.am_cluster_running.proofs.ends.a_crew_is_gathered.Goals as goal

pub returns : goal.returns
returns c = crews_gather
