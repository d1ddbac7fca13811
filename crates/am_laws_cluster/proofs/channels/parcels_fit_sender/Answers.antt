use Rattle.am_laws_cluster.proofs.Sent as laws
use Rattle.am_laws_cluster.proofs.channels.parcels_fit_sender.Goals as goal

pub returns : goal.returns
returns c = laws.parcels_fit
