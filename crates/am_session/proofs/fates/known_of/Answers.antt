use Rattle.am_session.proofs.Knowing.{known_next}
use Rattle.am_session.proofs.fates.known_of.Goals as goal

pub loop-entry-preserved : goal.loop-entry-preserved
loop-entry-preserved c =
    known_next c.loop-entry.table c.learn_from.new.table _ _ _ c.loop-entry-test.true c.loop-entry.invariant c.in_ok-learn_from.ensures
