use Rattle.am_lab_page.proofs.json.laws.objects_are_inert.Goals as goal
use Rattle.am_lab_page.proofs.Lines as laws

pub returns : goal.returns
returns c = laws.objects_are_inert
