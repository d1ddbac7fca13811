use Rattle.am_channel.proofs.Pushes as laws
use Rattle.am_channel.proofs.laws.a_call_is_counted.Goals as goal

pub returns : goal.returns
returns c = laws.call_counted
