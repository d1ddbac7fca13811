use Rattle.am_laws.proofs.Laws as laws
use Rattle.am_laws.proofs.post_office.Goals as goal

pub returns : goal.returns
returns c = laws.post_office
