use Rattle.am_lab_shiviz.proofs.Heard.{each_has_its_clock}
use Rattle.am_lab_shiviz.proofs.laws.each_happening_has_its_clock.Goals as goal

pub returns : goal.returns
returns c = each_has_its_clock
