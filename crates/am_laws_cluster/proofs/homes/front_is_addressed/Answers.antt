use Rattle.am_laws_cluster.proofs.HomesKept.{front_addressed}
use Rattle.am_laws_cluster.proofs.homes.front_is_addressed.Goals as goal

pub returns : goal.returns
returns c = front_addressed
