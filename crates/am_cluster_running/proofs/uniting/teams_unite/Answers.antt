use Rattle.am_cluster_running.proofs.Teams.{teams_unite}
use Rattle.am_cluster_running.proofs.uniting.teams_unite.Goals as goal

pub returns : goal.returns
returns c = teams_unite
