use Rattle.am_laws_runs.proofs.Returns.{none_times_out_law}
use Rattle.am_laws_runs.proofs.none_times_out.Goals as goal

pub returns : goal.returns
returns c = none_times_out_law
