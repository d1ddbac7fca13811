use Rattle.am_job.proofs.Ends.{rounds_run_few}
use Rattle.am_job.proofs.run_laws.rounds_run_few.Goals as goal

pub returns : goal.returns
returns c = rounds_run_few
