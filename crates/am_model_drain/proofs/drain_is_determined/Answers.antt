use Rattle.am_model_drain.proofs.Determined as determined
use Rattle.am_model_drain.proofs.drain_is_determined.Goals as goal

pub returns : goal.returns
returns c = determined.drain_is_determined
