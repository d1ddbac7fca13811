use Rattle.am_model_drain.proofs.Entries as entries
use Rattle.am_model_drain.proofs.entry_is_step.Goals as goal

pub returns : goal.returns
returns c = entries.entry_is_step
