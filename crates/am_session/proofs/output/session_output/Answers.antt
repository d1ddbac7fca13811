use Rattle.am_session.proofs.Telling.{output_means}
use Rattle.am_session.proofs.output.session_output.Goals as goal

pub returns-in-Ok-clause-meaning : goal.returns-in-Ok-clause-meaning
returns-in-Ok-clause-meaning c = output_means c.args.bytes.now c.in-Ok.script c.script_output.result c.in-Ok.ensures.exact c.script_output.ensures
