use Rattle.am_cluster_calls.proofs.CallsGrowing.{made_told}
use Rattle.am_cluster_scripted.proofs.tell_of.Goals as goal

pub returns-clause-made : goal.returns-clause-made
returns-clause-made c = made_told c.args.scenario.now c.args.cluster.now.journal c.args.threads.now _ c.requires.threads c.tell_made.ensures
