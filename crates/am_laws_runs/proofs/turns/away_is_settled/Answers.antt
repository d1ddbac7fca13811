use Rattle.am_laws_runs.proofs.Away.{away_is_settled}
use Rattle.am_laws_runs.proofs.turns.away_is_settled.Goals as goal

pub returns : goal.returns
returns c = away_is_settled
