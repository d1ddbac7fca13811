use Rattle.am_model_scripts.proofs.StepMakers.{made_alone}
use Rattle.am_model_scripts.proofs.steps.steps_make_no_other.Goals as goal

pub returns : goal.returns
returns c = made_alone
