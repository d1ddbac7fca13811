use Rattle.am_library.proofs.Lawful.{whole_sums}
use Rattle.am_library.proofs.laws.whole_sums.Goals as goal

pub returns : goal.returns
returns c = whole_sums
