use Rattle.am_workers_laws.proofs.Tenures.{tenures_log}
use Rattle.am_workers_laws.proofs.phases.tenures_make_a_log.Goals as goal

pub returns : goal.returns
returns c = tenures_log
