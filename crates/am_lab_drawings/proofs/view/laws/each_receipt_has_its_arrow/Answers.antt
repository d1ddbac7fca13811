use Rattle.am_lab_drawings.proofs.Receipts as receipts
use Rattle.am_lab_drawings.proofs.view.laws.each_receipt_has_its_arrow.Goals as goal

pub returns : goal.returns
returns c = receipts.each_receipt_has_its_arrow
