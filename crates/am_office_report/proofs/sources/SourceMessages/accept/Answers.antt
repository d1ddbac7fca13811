use Rattle.am_office_report.proofs.Placing.{sorted_put}
use Rattle.am_office_report.proofs.sources.SourceMessages.accept.Goals as goal

pub invariant_of-self : goal.invariant_of-self
invariant_of-self c = sorted_put _ _ _ _ _ c.put.ensures c.self.invariant
