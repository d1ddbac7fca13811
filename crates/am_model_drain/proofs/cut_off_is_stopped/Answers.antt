use Rattle.am_model_drain.proofs.Stopped as stopped
use Rattle.am_model_drain.proofs.cut_off_is_stopped.Goals as goal

pub returns : goal.returns
returns c = stopped.cut_off_is_stopped
