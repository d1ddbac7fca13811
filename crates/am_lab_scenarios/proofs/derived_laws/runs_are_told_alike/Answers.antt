use Rattle.am_lab_scenarios.proofs.Told.{counts, cuts, makes, segments}
use Rattle.am_lab_scenarios.proofs.derived_laws.runs_are_told_alike.Goals as goal

pub returns-clause-make : goal.returns-clause-make
returns-clause-make c = makes

pub returns-clause-segments : goal.returns-clause-segments
returns-clause-segments c = segments

pub returns-clause-count : goal.returns-clause-count
returns-clause-count c = counts

pub returns-clause-cut : goal.returns-clause-cut
returns-clause-cut c = cuts
