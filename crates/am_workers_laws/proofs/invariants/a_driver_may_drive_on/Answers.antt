use Rattle.am_workers_laws.proofs.Drivers.{can_wait}
use Rattle.am_workers_laws.proofs.Driving.{looks_keep, moves_keep}
use Rattle.am_workers_laws.proofs.invariants.a_driver_may_drive_on.Goals as goal

pub returns-clause-looks : goal.returns-clause-looks
returns-clause-looks c = looks_keep

pub returns-clause-moves : goal.returns-clause-moves
returns-clause-moves c = moves_keep

pub returns-clause-waits : goal.returns-clause-waits
returns-clause-waits c = can_wait
