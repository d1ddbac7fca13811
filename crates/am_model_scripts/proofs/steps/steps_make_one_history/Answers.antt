use Rattle.am_model_scripts.proofs.StepMakers.{is_made}
use Rattle.am_model_scripts.proofs.steps.steps_make_one_history.Goals as goal

pub returns : goal.returns
returns c = is_made
