use Rattle.am_laws_runs.proofs.Calling.{calls_fall}
use Rattle.am_laws_runs.proofs.ends.calls_fall.Goals as goal

pub returns : goal.returns
returns c = calls_fall
