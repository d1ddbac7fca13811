use Rattle.am_laws_runs.proofs.TimeOuts.{time_outs_fall}
use Rattle.am_laws_runs.proofs.ends.time_outs_fall.Goals as goal

pub returns : goal.returns
returns c = time_outs_fall
