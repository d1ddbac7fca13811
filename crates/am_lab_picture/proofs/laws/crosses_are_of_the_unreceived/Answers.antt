use Rattle.am_lab_picture.proofs.Shown.{crosses_are, crosses_stand}
use Rattle.am_lab_picture.proofs.laws.crosses_are_of_the_unreceived.Goals as goal

pub returns-clause-packets : goal.returns-clause-packets
returns-clause-packets c = crosses_are

pub returns-clause-places : goal.returns-clause-places
returns-clause-places c = crosses_stand
