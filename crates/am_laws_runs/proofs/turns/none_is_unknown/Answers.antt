use Rattle.am_laws_runs.proofs.Nothing.{none_is_unknown}
use Rattle.am_laws_runs.proofs.turns.none_is_unknown.Goals as goal

pub returns : goal.returns
returns c = none_is_unknown
