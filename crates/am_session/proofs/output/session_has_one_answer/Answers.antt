use Rattle.am_session.proofs.OneAnswer.{one_answer}
use Rattle.am_session.proofs.output.session_has_one_answer.Goals as goal

pub returns : goal.returns
returns c = one_answer
