use Rattle.am_office_report.proofs.Placing.{none_sorted}
use Rattle.am_office_report.proofs.sources.SourceMessages.new.Goals as goal

pub invariant_of-result : goal.invariant_of-result
invariant_of-result c = none_sorted _ c.new.ensures.items
