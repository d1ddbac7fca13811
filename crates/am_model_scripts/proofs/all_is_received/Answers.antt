use Rattle.am_model_scripts.proofs.Links as links
use Rattle.am_model_scripts.proofs.all_is_received.Goals as goal

pub returns : goal.returns
returns c = links.all_is_received
