use Rattle.am_laws_runs.proofs.Frames.{frames_are_apart}
use Rattle.am_laws_runs.proofs.turns.frames_are_apart.Goals as goal

pub returns : goal.returns
returns c = frames_are_apart
