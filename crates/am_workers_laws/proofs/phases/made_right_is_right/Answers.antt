use Rattle.am_workers_laws.proofs.Then.{was_right}
use Rattle.am_workers_laws.proofs.phases.made_right_is_right.Goals as goal

pub returns : goal.returns
returns c = was_right
