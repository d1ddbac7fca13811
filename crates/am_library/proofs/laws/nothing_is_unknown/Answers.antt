use Rattle.am_library.proofs.Growing.{nothing_is_unknown}
use Rattle.am_library.proofs.laws.nothing_is_unknown.Goals as goal

pub returns : goal.returns
returns c = nothing_is_unknown
