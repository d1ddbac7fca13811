use Rattle.am_cluster_schedule.proofs.Driven.{drivers_keep_making, drivers_make}
use Rattle.am_cluster_schedule.proofs.Works.{interfaces_keep_making, interfaces_make, threads_keep_making, threads_make}
use Rattle.am_cluster_schedule.proofs.lone.a_lone_worker_makes_its_work.Goals as goal

pub returns-clause-interfaces : goal.returns-clause-interfaces
returns-clause-interfaces c = interfaces_make

pub returns-clause-interfaces_on : goal.returns-clause-interfaces_on
returns-clause-interfaces_on c = interfaces_keep_making

pub returns-clause-threads : goal.returns-clause-threads
returns-clause-threads c = threads_make

pub returns-clause-threads_on : goal.returns-clause-threads_on
returns-clause-threads_on c = threads_keep_making

pub returns-clause-drivers : goal.returns-clause-drivers
returns-clause-drivers c = drivers_make

pub returns-clause-drivers_on : goal.returns-clause-drivers_on
returns-clause-drivers_on c = drivers_keep_making
