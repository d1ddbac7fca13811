use Rattle.am_laws_runs.proofs.Drained.{cut_off_runs_are_stopped}
use Rattle.am_laws_runs.proofs.cut_off_runs_are_stopped.Goals as goal

pub returns : goal.returns
returns c = cut_off_runs_are_stopped
