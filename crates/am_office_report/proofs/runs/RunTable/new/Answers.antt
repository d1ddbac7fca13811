use Rattle.am_office_report.proofs.Tabled.{no_runs}
use Rattle.am_office_report.proofs.runs.RunTable.new.Goals as goal

pub returns : goal.returns
returns c = rw c.in_ok-lists.ensures no_runs
