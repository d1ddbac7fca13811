use Rattle.am_workers_laws.proofs.Released.{released_was_sent}
use Rattle.am_workers_laws.proofs.phases.released_was_sent.Goals as goal

pub returns : goal.returns
returns c = released_was_sent
