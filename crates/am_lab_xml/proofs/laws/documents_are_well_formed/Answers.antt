use Rattle.am_lab_xml.proofs.Formed.{document}
use Rattle.am_lab_xml.proofs.laws.documents_are_well_formed.Goals as goal

pub returns : goal.returns
returns c = document
