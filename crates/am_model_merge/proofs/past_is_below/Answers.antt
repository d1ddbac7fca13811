use Rattle.am_model_merge.proofs.Before.{before_it}
use Rattle.am_model_merge.proofs.past_is_below.Goals as goal

pub returns : goal.returns
returns c = λ past more x. before_it past x more
