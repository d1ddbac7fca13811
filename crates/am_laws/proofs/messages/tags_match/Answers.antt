use Rattle.am_laws.proofs.Delivered as laws
use Rattle.am_laws.proofs.messages.tags_match.Goals as goal

pub returns : goal.returns
returns c = laws.tags_match
