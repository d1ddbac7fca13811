use Rattle.std.proofs.Common.{subst}
use Rattle.am_laws_runs.specs.Turns.Work.{work}
use Rattle.am_cluster_drainer.specs.Falling.{TurnFalls}
use Rattle.am_cluster_scripted.specs.Scripted.{RunView}
use Rattle.am_cluster_scripted.proofs.scripted.ScriptedClusterDrainable.turns_fall.Goals as goal

pub returns : goal.returns
returns c = subst (λ (w : RunView). TurnFalls work w.scenario w.journal) c.self.view_is c.turn_falls.ensures
