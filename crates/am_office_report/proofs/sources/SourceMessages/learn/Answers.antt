use Rattle.am_office_report.proofs.Placing.{sorted_hear}
use Rattle.am_office_report.proofs.sources.SourceMessages.learn.Goals as goal

pub invariant_of-self : goal.invariant_of-self
invariant_of-self c = sorted_hear _ _ _ _ c.hear.ensures c.self.invariant
