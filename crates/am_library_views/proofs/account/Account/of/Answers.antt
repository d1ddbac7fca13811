use Rattle.std.proofs.Common.{take}
use Rattle.am_office_entries.specs.Logged.Behind.{entries_behind}
use Rattle.am_library_views.proofs.Accounting.{next}
use Rattle.am_library_views.proofs.account.Account.of.Goals as goal

pub loop-entry-preserved : goal.loop-entry-preserved
loop-entry-preserved c =
    next c.learn.new.self c.entries-entries.result.now c.loop-entry.entry-index _ c.loop-entry-test.true
    (c.in_ok-learn.ensures (take c.loop-entry.entry-index (entries_behind c.entries-entries.result.now)) c.loop-entry.invariant)
