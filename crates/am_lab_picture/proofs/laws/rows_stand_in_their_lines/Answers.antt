use Rattle.am_lab_picture.proofs.Placing.{rows_have_lines}
use Rattle.am_lab_picture.proofs.Shown.{placed_rows_are_rows, rows_stand}
use Rattle.am_lab_picture.proofs.laws.rows_stand_in_their_lines.Goals as goal

pub returns-clause-rows : goal.returns-clause-rows
returns-clause-rows c = placed_rows_are_rows

pub returns-clause-lines : goal.returns-clause-lines
returns-clause-lines c = rows_stand

pub returns-clause-found : goal.returns-clause-found
returns-clause-found c = rows_have_lines
