use Rattle.std.proofs.Common.{Result, Ok, Err, OnOk}
use Rattle.am_office_report.proofs.Tabled.{runs_more}
use Rattle.am_office_report.proofs.reports.walk_over.Goals as goal

on_any : {T E : Type 0} {P : Type 0} (r : Result T E) → P → OnOk r P
on_any (Ok x) p = p
on_any (Err e) p = tt

pub returns-clause-runs : goal.returns-clause-runs
returns-clause-runs c = λ past are. on_any c.hear.result (rw c.in_ok-add.ensures (runs_more c.args.runs.now past c.args.entry.now are))
