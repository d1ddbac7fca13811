use Rattle.am_model_scripts.proofs.Done as done
use Rattle.am_model_scripts.proofs.scripts_are_done.Goals as goal

pub returns : goal.returns
returns c = done.scripts_are_done
