use Rattle.am_workers_laws.proofs.Seats.{taken_is_gathered}
use Rattle.am_workers_laws.proofs.phases.taken_is_gathered.Goals as goal

pub returns : goal.returns
returns c = taken_is_gathered
