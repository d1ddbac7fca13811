use Rattle.am_laws_runs.proofs.EndTurns.{drains_end}
use Rattle.am_laws_runs.proofs.ends.drains_end.Goals as goal

pub returns : goal.returns
returns c = drains_end
