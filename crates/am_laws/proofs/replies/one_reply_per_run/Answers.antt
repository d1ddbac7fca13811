use Rattle.am_laws.proofs.Credited as laws
use Rattle.am_laws.proofs.replies.one_reply_per_run.Goals as goal

pub returns : goal.returns
returns c = laws.one_reply_per_run
