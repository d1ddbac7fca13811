use Rattle.am_lab_picture.proofs.Spread.{spans_are_values}
use Rattle.am_lab_picture.proofs.laws.spans_are_values.Goals as goal

pub returns-clause-residency : goal.returns-clause-residency
returns-clause-residency c = spans_are_values

pub returns-clause-counts : goal.returns-clause-counts
returns-clause-counts c = spans_are_values
