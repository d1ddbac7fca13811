use Rattle.am_model_merge.proofs.History.{made_history}
use Rattle.am_model_merge.proofs.merged_is_history.Goals as goal

pub returns : goal.returns
returns c = made_history
