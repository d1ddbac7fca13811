use Rattle.am_workers.proofs.Begins.{new_drivers_are_at_work, new_interfaces_are_at_work, new_threads_are_at_work}
use Rattle.am_workers.proofs.starts.new_workers_are_at_work.Goals as goal

pub returns-clause-threads : goal.returns-clause-threads
returns-clause-threads c = new_threads_are_at_work

pub returns-clause-interfaces : goal.returns-clause-interfaces
returns-clause-interfaces c = new_interfaces_are_at_work

pub returns-clause-drivers : goal.returns-clause-drivers
returns-clause-drivers c = new_drivers_are_at_work
