use Rattle.am_model_drain.proofs.LastTries as last_tries
use Rattle.am_model_drain.proofs.last_tries_come_last.Goals as goal

pub returns : goal.returns
returns c = last_tries.last_tries_come_last
