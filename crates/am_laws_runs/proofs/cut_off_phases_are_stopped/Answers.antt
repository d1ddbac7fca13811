use Rattle.am_laws_runs.proofs.Phases.{cut_off_phases_are_stopped}
use Rattle.am_laws_runs.proofs.cut_off_phases_are_stopped.Goals as goal

pub returns : goal.returns
returns c = cut_off_phases_are_stopped
