use Rattle.am_laws_runs.proofs.Beginnings.{drains_are_not_refused}
use Rattle.am_laws_runs.proofs.drains_are_not_refused.Goals as goal

pub returns : goal.returns
returns c = drains_are_not_refused
