use Rattle.am_channel.proofs.Folds as laws
use Rattle.am_channel.proofs.laws.calls_are_counted.Goals as goal

pub returns : goal.returns
returns c = laws.calls_counted
