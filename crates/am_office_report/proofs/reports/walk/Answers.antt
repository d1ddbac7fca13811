use Rattle.std.proofs.Common.{List, take}
use Rattle.am_office_entries.specs.declared.Entry.{Entry}
use Rattle.am_office_entries.specs.Logged.Behind.{entries_behind}
use Rattle.am_office_report.specs.Tables.{AreRuns, HasHeard}
use Rattle.am_office_report.proofs.Walked.{lines_walked, walked}
use Rattle.am_office_report.proofs.reports.walk.Goals as goal

pub loop-entry-preserved : goal.loop-entry-preserved
loop-entry-preserved c =
    let xs = c.args.entries.now in
    let i = c.loop-entry.entry-index in
    let past = take i (entries_behind xs) in
    let one = c.in_ok-walk_over.ensures in
    let before = c.loop-entry.invariant in
    let below = c.loop-entry-test.true in (
      lines_walked xs i _ c.args.out.now.items c.loop-entry.out.items c.walk_over.new.out.items below before.0 one.line,
      (
        (λ are. walked (λ (journal : List Entry). AreRuns c.walk_over.new.runs journal) xs i _ below (one.runs past (before.1.0 are))),
        λ heard. walked (λ (journal : List Entry). HasHeard c.walk_over.new.heard journal) xs i _ below (one.heard past (before.1.1 heard)),
      ),
    )
