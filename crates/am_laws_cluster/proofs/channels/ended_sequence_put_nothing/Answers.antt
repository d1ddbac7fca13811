use Rattle.am_laws_cluster.proofs.Answers as laws
use Rattle.am_laws_cluster.proofs.channels.ended_sequence_put_nothing.Goals as goal

pub returns : goal.returns
returns c = laws.ended_put_nothing
