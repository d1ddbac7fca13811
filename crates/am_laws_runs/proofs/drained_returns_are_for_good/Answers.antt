use Rattle.am_laws_runs.proofs.Returns.{drained_returns_are_for_good}
use Rattle.am_laws_runs.proofs.drained_returns_are_for_good.Goals as goal

pub returns : goal.returns
returns c = drained_returns_are_for_good
