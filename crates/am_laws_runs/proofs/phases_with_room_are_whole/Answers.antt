use Rattle.am_laws_runs.proofs.Phases.{phases_with_room_are_whole}
use Rattle.am_laws_runs.proofs.phases_with_room_are_whole.Goals as goal

pub returns : goal.returns
returns c = phases_with_room_are_whole
