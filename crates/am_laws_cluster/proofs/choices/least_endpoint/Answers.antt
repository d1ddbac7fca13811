use Rattle.am_laws_cluster.proofs.Choosing.{least}
use Rattle.am_laws_cluster.proofs.choices.least_endpoint.Goals as goal

pub returns : goal.returns
returns c = least
