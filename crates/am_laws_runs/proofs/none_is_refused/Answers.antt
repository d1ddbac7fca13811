use Rattle.am_laws_runs.proofs.Drained.{none_is_refused}
use Rattle.am_laws_runs.proofs.none_is_refused.Goals as goal

pub returns : goal.returns
returns c = none_is_refused
