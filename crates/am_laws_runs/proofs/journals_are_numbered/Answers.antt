use Rattle.am_laws_runs.proofs.Short.{journals_are_numbered}
use Rattle.am_laws_runs.proofs.journals_are_numbered.Goals as goal

pub returns : goal.returns
returns c = journals_are_numbered
