use Rattle.am_lab_shiviz.proofs.Heard.{counts_its_node}
use Rattle.am_lab_shiviz.proofs.laws.clocks_count_their_node.Goals as goal

pub returns : goal.returns
returns c = counts_its_node
