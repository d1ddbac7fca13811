use Rattle.am_laws_runs.proofs.Drained.{runs_with_room_are_whole}
use Rattle.am_laws_runs.proofs.runs_with_room_are_whole.Goals as goal

pub returns : goal.returns
returns c = runs_with_room_are_whole
