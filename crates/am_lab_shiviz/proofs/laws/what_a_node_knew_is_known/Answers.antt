use Rattle.am_lab_shiviz.proofs.Heard.{knows_what_was_known_there}
use Rattle.am_lab_shiviz.proofs.laws.what_a_node_knew_is_known.Goals as goal

pub returns : goal.returns
returns c = knows_what_was_known_there
