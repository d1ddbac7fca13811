use Rattle.am_lab_xml.proofs.Led.{first_texts_are_found}
use Rattle.am_lab_xml.proofs.laws.first_texts_are_read.Goals as goal

pub returns : goal.returns
returns c = first_texts_are_found
