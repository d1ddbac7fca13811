use Rattle.am_library.proofs.Lawful.{runs_at_most_once}
use Rattle.am_library.proofs.laws.runs_at_most_once.Goals as goal

pub returns : goal.returns
returns c = runs_at_most_once
