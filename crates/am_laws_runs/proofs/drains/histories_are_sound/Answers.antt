use Rattle.am_laws_runs.proofs.Soundness as soundness
use Rattle.am_laws_runs.proofs.drains.histories_are_sound.Goals as goal

pub returns : goal.returns
returns c = soundness.histories_are_sound
