use Rattle.std.proofs.Common.{refl}
use Rattle.am_laws_cluster.proofs.channels.a_late_first_attempt.Goals as goal

pub returns-clause-answered : goal.returns-clause-answered
returns-clause-answered c = (3, refl)
