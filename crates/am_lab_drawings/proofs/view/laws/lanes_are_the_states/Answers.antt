use Rattle.am_lab_drawings.proofs.Told as told
use Rattle.am_lab_drawings.proofs.view.laws.lanes_are_the_states.Goals as goal

pub returns : goal.returns
returns c = told.lanes_are_the_states
