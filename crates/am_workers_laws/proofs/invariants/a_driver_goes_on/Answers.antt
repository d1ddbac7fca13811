use Rattle.am_workers_laws.proofs.Drivers.{drivers_go_on, drivers_look, drivers_rest, drivers_wait}
use Rattle.am_workers_laws.proofs.invariants.a_driver_goes_on.Goals as goal

pub returns-clause-looks : goal.returns-clause-looks
returns-clause-looks c = drivers_look

pub returns-clause-moves : goal.returns-clause-moves
returns-clause-moves c = drivers_go_on

pub returns-clause-rests : goal.returns-clause-rests
returns-clause-rests c = drivers_rest

pub returns-clause-waits : goal.returns-clause-waits
returns-clause-waits c = drivers_wait
