use Rattle.am_lab_picture.proofs.Shown.{arrows_join}
use Rattle.am_lab_picture.proofs.laws.arrows_join_emissions_to_receipts.Goals as goal

pub returns : goal.returns
returns c = arrows_join
