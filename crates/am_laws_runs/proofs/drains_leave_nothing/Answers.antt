use Rattle.am_laws_runs.proofs.Left.{drains_leave_nothing}
use Rattle.am_laws_runs.proofs.drains_leave_nothing.Goals as goal

pub returns : goal.returns
returns c = drains_leave_nothing
