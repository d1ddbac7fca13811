use Rattle.am_lab_picture.proofs.Downwards.{below, inside}
use Rattle.am_lab_picture.proofs.layout.laws.rows_go_down.Goals as goal

pub returns-clause-below : goal.returns-clause-below
returns-clause-below c = below

pub returns-clause-inside : goal.returns-clause-inside
returns-clause-inside c = inside
