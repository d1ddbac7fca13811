use Rattle.am_model_drain.proofs.Scripts as scripts
use Rattle.am_model_drain.proofs.scripts_go_on.Goals as goal

pub returns : goal.returns
returns c = scripts.scripts_go_on
