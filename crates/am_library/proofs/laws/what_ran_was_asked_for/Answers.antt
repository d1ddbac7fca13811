use Rattle.am_library.proofs.Lawful.{what_ran_was_asked_for}
use Rattle.am_library.proofs.laws.what_ran_was_asked_for.Goals as goal

pub returns : goal.returns
returns c = what_ran_was_asked_for
