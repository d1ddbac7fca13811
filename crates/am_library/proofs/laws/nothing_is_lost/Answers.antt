use Rattle.am_library.proofs.Lawful.{nothing_is_lost}
use Rattle.am_library.proofs.laws.nothing_is_lost.Goals as goal

pub returns : goal.returns
returns c = nothing_is_lost
