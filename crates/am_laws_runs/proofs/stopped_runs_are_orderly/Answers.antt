use Rattle.am_laws_runs.proofs.Stopped.{stopped_runs_are_orderly}
use Rattle.am_laws_runs.proofs.stopped_runs_are_orderly.Goals as goal

pub returns : goal.returns
returns c = stopped_runs_are_orderly
