use Rattle.am_model_scripts.proofs.Links as links
use Rattle.am_model_scripts.proofs.receives_beginning.Goals as goal

pub returns : goal.returns
returns c = links.receives_beginning
