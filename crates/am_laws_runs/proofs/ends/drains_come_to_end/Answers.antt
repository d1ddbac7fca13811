use Rattle.am_laws_runs.proofs.Ending.{drains_come_to_end}
use Rattle.am_laws_runs.proofs.ends.drains_come_to_end.Goals as goal

pub returns : goal.returns
returns c = drains_come_to_end
