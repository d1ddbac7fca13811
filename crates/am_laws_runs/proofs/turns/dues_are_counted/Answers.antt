use Rattle.am_laws_runs.proofs.Receipts.{dues_are_counted}
use Rattle.am_laws_runs.proofs.turns.dues_are_counted.Goals as goal

pub returns : goal.returns
returns c = dues_are_counted
