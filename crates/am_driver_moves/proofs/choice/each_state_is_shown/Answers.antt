use Rattle.am_driver_moves.proofs.Views as views
use Rattle.am_driver_moves.proofs.choice.each_state_is_shown.Goals as goal

pub returns : goal.returns
returns c = views.each_state_is_shown
