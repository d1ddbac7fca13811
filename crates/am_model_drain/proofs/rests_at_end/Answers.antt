use Rattle.am_model_drain.proofs.Rest as rest
use Rattle.am_model_drain.proofs.rests_at_end.Goals as goal

pub returns : goal.returns
returns c = rest.rests_at_end
