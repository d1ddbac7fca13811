use Rattle.am_lab_page.proofs.json.laws.each_entry_has_its_line.Goals as goal
use Rattle.am_lab_page.proofs.Lines as laws

pub returns : goal.returns
returns c = laws.each_entry_has_its_line
