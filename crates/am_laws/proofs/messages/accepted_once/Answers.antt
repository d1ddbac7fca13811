use Rattle.am_laws.proofs.Asked as laws
use Rattle.am_laws.proofs.messages.accepted_once.Goals as goal

pub returns : goal.returns
returns c = laws.accepted_once
