use Rattle.std.proofs.Common.{◌≡◌, ◌++◌, take}
use Rattle.std.specs.List.{flat_map}
use Rattle.am_office_report.specs.Report.{fate_line}
use Rattle.am_office_report.proofs.reports.put_fates.Given as goal

abbrev pub invariant-loop-message : goal.invariant-loop-message
invariant-loop-message l = l.out.items ≡ l.fn.out.items ++ flat_map fate_line (take l.message-index l.messages)
