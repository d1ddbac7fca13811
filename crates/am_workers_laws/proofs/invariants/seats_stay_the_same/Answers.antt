use Rattle.am_workers_laws.proofs.Same.{seats_stay}
use Rattle.am_workers_laws.proofs.invariants.seats_stay_the_same.Goals as goal

pub returns : goal.returns
returns c = seats_stay
