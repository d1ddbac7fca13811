use Rattle.am_laws_runs.proofs.Drained.{drains_are_short}
use Rattle.am_laws_runs.proofs.drains_are_short.Goals as goal

pub returns : goal.returns
returns c = drains_are_short
