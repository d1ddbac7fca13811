use Rattle.am_model_drain.proofs.Follows as follows
use Rattle.am_model_drain.proofs.drained_follows.Goals as goal

pub returns : goal.returns
returns c = follows.drained_follows
