use Rattle.am_laws_runs.proofs.Short.{journals_are_short}
use Rattle.am_laws_runs.proofs.journals_are_short.Goals as goal

pub returns : goal.returns
returns c = journals_are_short
