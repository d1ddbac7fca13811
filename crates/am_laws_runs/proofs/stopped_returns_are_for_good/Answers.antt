use Rattle.am_laws_runs.proofs.Stopped.{stopped_returns_are_for_good}
use Rattle.am_laws_runs.proofs.stopped_returns_are_for_good.Goals as goal

pub returns : goal.returns
returns c = stopped_returns_are_for_good
