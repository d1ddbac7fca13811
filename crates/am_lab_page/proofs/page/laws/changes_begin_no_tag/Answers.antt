use Rattle.am_lab_page.proofs.page.laws.changes_begin_no_tag.Goals as goal
use Rattle.am_lab_page.proofs.Scripts as laws

pub returns : goal.returns
returns c = laws.changes_begin_no_tag
