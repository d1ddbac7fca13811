use Rattle.am_model_drain.proofs.Events as events
use Rattle.am_model_drain.proofs.events_are_of_run.Goals as goal

pub returns : goal.returns
returns c = events.events_are_of_run
