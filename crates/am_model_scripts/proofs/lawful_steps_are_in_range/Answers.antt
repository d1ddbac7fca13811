use Rattle.am_model_scripts.proofs.Lawful.{steps_in_range}
use Rattle.am_model_scripts.proofs.lawful_steps_are_in_range.Goals as goal

pub returns : goal.returns
returns c = steps_in_range
