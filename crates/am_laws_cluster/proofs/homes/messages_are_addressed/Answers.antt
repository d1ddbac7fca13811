use Rattle.am_laws_cluster.proofs.HomesKept.{messages_addressed}
use Rattle.am_laws_cluster.proofs.homes.messages_are_addressed.Goals as goal

pub returns : goal.returns
returns c = messages_addressed
