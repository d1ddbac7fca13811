use Rattle.am_model_drain.proofs.Receipts as receipts
use Rattle.am_model_drain.proofs.receipts_go_on.Goals as goal

pub returns : goal.returns
returns c = receipts.receipts_go_on
