use Rattle.am_workers.proofs.Begins.{books_are_homely, drivers_begin}
use Rattle.am_workers.proofs.starts.drivers_begin.Goals as goal

pub returns-clause-begin : goal.returns-clause-begin
returns-clause-begin c = drivers_begin

pub returns-clause-homely : goal.returns-clause-homely
returns-clause-homely c = books_are_homely
