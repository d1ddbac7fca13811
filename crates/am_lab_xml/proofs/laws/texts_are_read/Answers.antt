use Rattle.am_lab_xml.proofs.Found.{texts_are_found}
use Rattle.am_lab_xml.proofs.laws.texts_are_read.Goals as goal

pub returns : goal.returns
returns c = texts_are_found
