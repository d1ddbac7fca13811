use Rattle.am_lab_state.proofs.laws.changes_are_told.Goals as goal
use Rattle.am_lab_state.proofs.Growing as laws

pub returns : goal.returns
returns c = laws.changes_are_told
