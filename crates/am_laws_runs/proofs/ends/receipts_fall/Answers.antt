use Rattle.am_laws_runs.proofs.Receiving.{receipts_fall}
use Rattle.am_laws_runs.proofs.ends.receipts_fall.Goals as goal

pub returns : goal.returns
returns c = receipts_fall
