use Rattle.am_model_merge.proofs.Unique.{merge_unique}
use Rattle.am_model_merge.proofs.merge_is_unique.Goals as goal

pub returns : goal.returns
returns c = merge_unique
