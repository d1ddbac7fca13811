use Rattle.std.proofs.Common.{refl}
use Rattle.am_cluster_scripted.specs.Scripted.{cluster_of}
use Rattle.am_cluster_scripted.proofs.Applying.{acts_made}
use Rattle.am_cluster_scripted.proofs.scripted.ScriptedClusterDrainable.apply.Goals as goal

pub returns-clause-acts : goal.returns-clause-acts
returns-clause-acts c = acts_made c.args.self.now.scenario (cluster_of c.args.self.now) (cluster_of c.advance.new.self) c.args.event c.advance.result refl
    c.advance.ensures.makes
