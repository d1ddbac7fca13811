use Rattle.am_session.proofs.Fating.{fates_next}
use Rattle.am_session.proofs.report.put_fates.Goals as goal

pub loop-before-preserved : goal.loop-before-preserved
loop-before-preserved c = λ entries are. fates_next entries c.loop-before.before _ _ _ (c.loop-before.invariant entries are)
    (c.in_ok-put_fate.ensures entries are)
