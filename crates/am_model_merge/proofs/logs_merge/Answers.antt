use Rattle.am_model_merge.proofs.Inserting.{merges}
use Rattle.am_model_merge.proofs.logs_merge.Goals as goal

pub returns : goal.returns
returns c = merges
