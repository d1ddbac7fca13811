use Rattle.am_workers_laws.proofs.Begins.{interfaces_begin, threads_begin}
use Rattle.am_workers_laws.proofs.invariants.fresh_workers_begin.Goals as goal

pub returns-clause-threads : goal.returns-clause-threads
returns-clause-threads c = threads_begin

pub returns-clause-interfaces : goal.returns-clause-interfaces
returns-clause-interfaces c = interfaces_begin
