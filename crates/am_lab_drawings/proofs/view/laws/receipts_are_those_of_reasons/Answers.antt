use Rattle.am_lab_drawings.proofs.Told.{receipts_same}
use Rattle.am_lab_drawings.proofs.view.laws.receipts_are_those_of_reasons.Goals as goal

pub returns : goal.returns
returns c = receipts_same
