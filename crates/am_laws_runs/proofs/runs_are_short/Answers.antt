use Rattle.am_laws_runs.proofs.Drained.{runs_are_short}
use Rattle.am_laws_runs.proofs.runs_are_short.Goals as goal

pub returns : goal.returns
returns c = runs_are_short
