use Rattle.am_laws_runs.proofs.Sending.{sends_fall}
use Rattle.am_laws_runs.proofs.ends.sends_fall.Goals as goal

pub returns : goal.returns
returns c = sends_fall
