use Rattle.am_laws_runs.proofs.EndTurns.{each_turn_falls}
use Rattle.am_laws_runs.proofs.ends.each_turn_falls.Goals as goal

pub returns : goal.returns
returns c = each_turn_falls
