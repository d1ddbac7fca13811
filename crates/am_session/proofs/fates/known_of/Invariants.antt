use Rattle.std.proofs.Common.{take}
use Rattle.am_session.specs.Tables.{AreKnown}
use Rattle.am_session.proofs.fates.known_of.Given as goal

abbrev pub invariant-loop-entry : goal.invariant-loop-entry
invariant-loop-entry l = AreKnown l.table (take l.entry-index l.entries)
