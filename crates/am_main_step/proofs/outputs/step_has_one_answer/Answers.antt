use Rattle.am_main_step.proofs.OneAnswer.{one_answer}
use Rattle.am_main_step.proofs.outputs.step_has_one_answer.Goals as goal

pub returns : goal.returns
returns c = one_answer
