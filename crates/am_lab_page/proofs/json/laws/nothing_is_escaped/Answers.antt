use Rattle.am_lab_page.proofs.json.laws.nothing_is_escaped.Goals as goal
use Rattle.am_lab_page.proofs.Plain as laws

pub returns : goal.returns
returns c = laws.nothing_is_escaped
