use Rattle.am_laws_runs.proofs.Ending.{runs_come_to_end}
use Rattle.am_laws_runs.proofs.ends.runs_come_to_end.Goals as goal

pub returns : goal.returns
returns c = runs_come_to_end
