use Rattle.am_lab_scenarios.proofs.ReplaysMade.{makes_it_again}
use Rattle.am_lab_scenarios.proofs.replays.replays_are_the_run.Goals as goal

pub returns : goal.returns
returns c = makes_it_again
