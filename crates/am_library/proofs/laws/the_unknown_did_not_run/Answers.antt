use Rattle.am_library.proofs.Lawful.{the_unknown_did_not_run}
use Rattle.am_library.proofs.laws.the_unknown_did_not_run.Goals as goal

pub returns : goal.returns
returns c = the_unknown_did_not_run
