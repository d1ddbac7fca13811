use Rattle.am_library.proofs.Lawful.{sums_are_of_runs}
use Rattle.am_library.proofs.laws.sums_are_of_runs.Goals as goal

pub returns : goal.returns
returns c = sums_are_of_runs
