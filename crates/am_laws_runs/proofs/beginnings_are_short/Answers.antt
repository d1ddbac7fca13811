use Rattle.am_laws_runs.proofs.Phases.{beginnings_are_short}
use Rattle.am_laws_runs.proofs.beginnings_are_short.Goals as goal

pub returns : goal.returns
returns c = beginnings_are_short
