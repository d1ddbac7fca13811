use Rattle.am_library.proofs.Lawful.{sums_are_the_endpoints}
use Rattle.am_library.proofs.laws.sums_are_the_endpoints.Goals as goal

pub returns : goal.returns
returns c = sums_are_the_endpoints
