use Rattle.am_cluster_running.proofs.Teams.{teams_end}
use Rattle.am_cluster_running.proofs.uniting.teams_end.Goals as goal

pub returns : goal.returns
returns c = teams_end
