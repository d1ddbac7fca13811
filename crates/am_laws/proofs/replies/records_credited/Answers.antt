use Rattle.am_laws.proofs.Records as laws
use Rattle.am_laws.proofs.replies.records_credited.Goals as goal

pub returns : goal.returns
returns c = laws.records_credited
