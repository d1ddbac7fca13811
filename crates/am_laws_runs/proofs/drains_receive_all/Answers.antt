use Rattle.am_laws_runs.proofs.Left.{drains_receive_all}
use Rattle.am_laws_runs.proofs.drains_receive_all.Goals as goal

pub returns : goal.returns
returns c = drains_receive_all
