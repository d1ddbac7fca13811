use Rattle.am_laws_runs.proofs.Pending as pending
use Rattle.am_laws_runs.proofs.drains.none_pending.Goals as goal

pub returns : goal.returns
returns c = pending.none_pending
