use Rattle.am_workers_laws.proofs.Seats.{enters, leaves}
use Rattle.am_workers_laws.proofs.phases.seats_know_their_own.Goals as goal

pub returns-clause-enters : goal.returns-clause-enters
returns-clause-enters c = enters

pub returns-clause-leaves : goal.returns-clause-leaves
returns-clause-leaves c = leaves
