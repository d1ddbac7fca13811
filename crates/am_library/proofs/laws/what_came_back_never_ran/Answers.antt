use Rattle.am_library.proofs.Lawful.{what_came_back_never_ran}
use Rattle.am_library.proofs.laws.what_came_back_never_ran.Goals as goal

pub returns : goal.returns
returns c = what_came_back_never_ran
