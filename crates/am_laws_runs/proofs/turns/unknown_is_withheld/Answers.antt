use Rattle.am_laws_runs.proofs.Unknown.{unknown_is_withheld}
use Rattle.am_laws_runs.proofs.turns.unknown_is_withheld.Goals as goal

pub returns : goal.returns
returns c = unknown_is_withheld
