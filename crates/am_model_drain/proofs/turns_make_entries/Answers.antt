use Rattle.am_model_drain.proofs.Turns as turns
use Rattle.am_model_drain.proofs.turns_make_entries.Goals as goal

pub returns : goal.returns
returns c = turns.turns_make_entries
