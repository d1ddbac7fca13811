use Rattle.am_laws.proofs.ReplyMessages as laws
use Rattle.am_laws.proofs.messages.one_reply_sent.Goals as goal

pub returns : goal.returns
returns c = laws.sends_one
