use Rattle.am_lab_page.proofs.page.laws.journals_end_no_script.Goals as goal
use Rattle.am_lab_page.proofs.Scripts as laws

pub returns : goal.returns
returns c = laws.journals_end_no_script
