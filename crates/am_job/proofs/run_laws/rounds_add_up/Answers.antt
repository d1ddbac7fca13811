use Rattle.am_job.proofs.Ends.{rounds_add_up}
use Rattle.am_job.proofs.run_laws.rounds_add_up.Goals as goal

pub returns : goal.returns
returns c = rounds_add_up
