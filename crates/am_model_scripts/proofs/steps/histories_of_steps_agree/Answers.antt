use Rattle.am_model_scripts.proofs.StepMakers.{histories_agree}
use Rattle.am_model_scripts.proofs.steps.histories_of_steps_agree.Goals as goal

pub returns : goal.returns
returns c = histories_agree
