use Rattle.am_driver_moves.proofs.Views as views
use Rattle.am_driver_moves.proofs.choice.first_is_least.Goals as goal

pub returns : goal.returns
returns c = views.first_is_least
