use Rattle.am_workers_laws.proofs.Received.{got_was_sent}
use Rattle.am_workers_laws.proofs.phases.got_was_sent.Goals as goal

pub returns : goal.returns
returns c = got_was_sent
