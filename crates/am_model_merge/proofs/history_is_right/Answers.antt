use Rattle.am_model_merge.proofs.Rightness.{merges_own, right_exactly}
use Rattle.am_model_merge.proofs.history_is_right.Goals as goal

pub returns-clause-merges : goal.returns-clause-merges
returns-clause-merges c = merges_own

pub returns-clause-right : goal.returns-clause-right
returns-clause-right c = right_exactly
