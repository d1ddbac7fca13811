use Rattle.am_laws_runs.proofs.Returns.{returns_are_for_good}
use Rattle.am_laws_runs.proofs.returns_are_for_good.Goals as goal

pub returns : goal.returns
returns c = returns_are_for_good
