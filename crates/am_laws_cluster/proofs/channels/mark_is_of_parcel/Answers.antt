use Rattle.am_laws_cluster.proofs.Sent as laws
use Rattle.am_laws_cluster.proofs.channels.mark_is_of_parcel.Goals as goal

pub returns : goal.returns
returns c = laws.mark_of
