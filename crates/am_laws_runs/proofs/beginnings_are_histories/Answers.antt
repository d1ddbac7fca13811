use Rattle.am_laws_runs.proofs.Beginnings.{beginnings_are_histories}
use Rattle.am_laws_runs.proofs.beginnings_are_histories.Goals as goal

pub returns : goal.returns
returns c = beginnings_are_histories
