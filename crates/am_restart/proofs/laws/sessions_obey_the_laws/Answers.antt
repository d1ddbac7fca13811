-- Every session obeys the laws.
use Rattle.am_restart.proofs.Sessions.{laws}
use Rattle.am_restart.proofs.laws.sessions_obey_the_laws.Goals as goal

pub returns : goal.returns
returns c = laws
