use Rattle.am_channel.proofs.Apart as laws
use Rattle.am_channel.proofs.laws.a_call_leaves_other_channels.Goals as goal

pub returns : goal.returns
returns c = laws.call_apart
