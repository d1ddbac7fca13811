use Rattle.am_laws_runs.proofs.Beginnings.{cut_offs_are_histories}
use Rattle.am_laws_runs.proofs.cut_offs_are_histories.Goals as goal

pub returns : goal.returns
returns c = cut_offs_are_histories
