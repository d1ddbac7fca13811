use Rattle.am_laws_runs.proofs.Known.{runs_have_short_logs}
use Rattle.am_laws_runs.proofs.runs_have_short_logs.Goals as goal

pub returns : goal.returns
returns c = runs_have_short_logs
