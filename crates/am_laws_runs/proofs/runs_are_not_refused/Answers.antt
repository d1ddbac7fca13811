use Rattle.am_laws_runs.proofs.Phases.{runs_are_not_refused}
use Rattle.am_laws_runs.proofs.runs_are_not_refused.Goals as goal

pub returns : goal.returns
returns c = runs_are_not_refused
