use Rattle.am_laws_runs.proofs.Receipts.{receipts_may_follow}
use Rattle.am_laws_runs.proofs.turns.receipts_may_follow.Goals as goal

pub returns : goal.returns
returns c = receipts_may_follow
