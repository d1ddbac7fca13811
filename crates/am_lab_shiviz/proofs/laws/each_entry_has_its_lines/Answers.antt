use Rattle.am_lab_shiviz.proofs.Lines as lines
use Rattle.am_lab_shiviz.proofs.laws.each_entry_has_its_lines.Goals as goal

pub returns : goal.returns
returns c = lines.each_entry_has_its_lines
