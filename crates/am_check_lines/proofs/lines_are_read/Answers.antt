use Rattle.am_check_lines.proofs.Lines.{lines_are_read}
use Rattle.am_check_lines.proofs.lines_are_read.Goals as goal

pub returns : goal.returns
returns c = lines_are_read
