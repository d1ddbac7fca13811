use Rattle.am_model_drain.proofs.CutOff as cut_off
use Rattle.am_model_drain.proofs.cut_is_determined.Goals as goal

pub returns : goal.returns
returns c = cut_off.cut_is_determined
