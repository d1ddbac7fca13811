use Rattle.am_laws_runs.proofs.Turning.{drains_make_histories}
use Rattle.am_laws_runs.proofs.turns.drains_make_histories.Goals as goal

pub returns : goal.returns
returns c = drains_make_histories
