use Rattle.am_lab_xml.proofs.Elements.{elements_are_found}
use Rattle.am_lab_xml.proofs.laws.elements_are_read.Goals as goal

pub returns : goal.returns
returns c = elements_are_found
