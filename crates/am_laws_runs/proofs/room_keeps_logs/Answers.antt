use Rattle.am_laws_runs.proofs.Logs.{room_keeps_logs}
use Rattle.am_laws_runs.proofs.room_keeps_logs.Goals as goal

pub returns : goal.returns
returns c = room_keeps_logs
