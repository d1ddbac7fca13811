use Rattle.am_laws_runs.proofs.Calling.{polls_fall}
use Rattle.am_laws_runs.proofs.ends.polls_fall.Goals as goal

pub returns : goal.returns
returns c = polls_fall
