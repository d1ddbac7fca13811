use Rattle.std.proofs.Common.{◌≡◌, ◌++◌, take, List}
use Rattle.std.specs.List.{flat_map}
use Rattle.am_office_entries.specs.declared.Entry.{Entry}
use Rattle.am_office_report.specs.Report.{end_part}
use Rattle.am_office_report.specs.Tables.{AreRuns}
use Rattle.am_office_report.proofs.reports.put_ends.Given as goal

abbrev pub invariant-loop-end : goal.invariant-loop-end
invariant-loop-end l = (journal : List Entry) → AreRuns l.table journal → l.out.items ≡ l.fn.out.items ++ flat_map (end_part journal) (take l.end-index l.ends)
