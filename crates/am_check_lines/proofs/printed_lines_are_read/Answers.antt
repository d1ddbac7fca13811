use Rattle.am_check_lines.proofs.Lines.{printed_lines}
use Rattle.am_check_lines.proofs.printed_lines_are_read.Goals as goal

pub returns : goal.returns
returns c = printed_lines
