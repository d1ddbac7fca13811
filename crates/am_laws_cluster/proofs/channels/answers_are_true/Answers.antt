use Rattle.am_laws_cluster.proofs.Answers as laws
use Rattle.am_laws_cluster.proofs.channels.answers_are_true.Goals as goal

pub returns : goal.returns
returns c = laws.answers_true
