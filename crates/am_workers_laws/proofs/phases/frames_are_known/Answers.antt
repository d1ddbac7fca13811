use Rattle.am_workers_laws.proofs.Frames.{frames_are_known}
use Rattle.am_workers_laws.proofs.phases.frames_are_known.Goals as goal

pub returns : goal.returns
returns c = frames_are_known
