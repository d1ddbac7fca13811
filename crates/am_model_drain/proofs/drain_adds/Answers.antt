use Rattle.am_model_drain.proofs.Turns as turns
use Rattle.am_model_drain.proofs.drain_adds.Goals as goal

pub returns : goal.returns
returns c = turns.drain_adds
