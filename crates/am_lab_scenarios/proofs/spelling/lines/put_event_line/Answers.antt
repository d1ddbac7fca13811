use Rattle.am_lab_scenarios.proofs.Printed.{no_outcome}
use Rattle.am_lab_scenarios.proofs.spelling.lines.put_event_line.Goals as goal

pub returns : goal.returns
returns c = rw (no_outcome c.args.event) at c.entry_line.ensures.ok
