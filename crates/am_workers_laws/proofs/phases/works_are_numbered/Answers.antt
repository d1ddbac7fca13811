use Rattle.am_workers_laws.proofs.Received.{works_are_numbered}
use Rattle.am_workers_laws.proofs.phases.works_are_numbered.Goals as goal

pub returns : goal.returns
returns c = works_are_numbered
