use Rattle.am_lab_xml.proofs.Bytes.{escape_is_read}
use Rattle.am_lab_xml.proofs.laws.escapes_are_read.Goals as goal

pub returns : goal.returns
returns c = escape_is_read
