use Rattle.am_laws_runs.proofs.Sends.{off_disk_is_off}
use Rattle.am_laws_runs.proofs.turns.off_disk_is_off.Goals as goal

pub returns : goal.returns
returns c = off_disk_is_off
