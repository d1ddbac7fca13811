use Rattle.am_model_drain.proofs.Entries as entries
use Rattle.am_model_drain.proofs.entry_may_follow.Goals as goal

pub returns : goal.returns
returns c = entries.entry_may_follow
