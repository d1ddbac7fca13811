use Rattle.std.proofs.Common.{◌≡◌, ◌++◌, List}
use Rattle.am_restart.specs.declared.events.SessionEntry.{SessionEntry}
use Rattle.am_session.specs.Report.{fate_lines}
use Rattle.am_session.specs.Tables.{AreKnown}
use Rattle.am_session.proofs.report.put_fates.Given as goal

abbrev pub invariant-loop-before : goal.invariant-loop-before
invariant-loop-before l = (entries : List SessionEntry) → AreKnown l.table entries → l.out.items ≡ l.fn.out.items ++ fate_lines entries l.before
