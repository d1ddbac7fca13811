use Rattle.am_laws_runs.proofs.Sends.{ready_is_ready}
use Rattle.am_laws_runs.proofs.turns.ready_is_ready.Goals as goal

pub returns : goal.returns
returns c = ready_is_ready
