use Rattle.std.specs.Prelude.{option_map, IfSome}
use Rattle.std.proofs.Common.{◌≡◌, map, subst, true, List}
use Rattle.am_model.specs.History.{is_in_range}
use Rattle.am_model_scripts.specs.Layout.{layout_of}
use Rattle.am_model_drain.specs.Rules.{left_to}
use Rattle.am_cluster_drainer.specs.declared.LeftCall.{LeftCall}
use Rattle.am_cluster_drainer.specs.Firsts.{IsFewest}
use Rattle.am_cluster_drainer.specs.Reads.{call_event, left_of}
use Rattle.am_cluster_scripted.specs.Scripted.{RunView}
use Rattle.am_cluster_calls.specs.Threads.{left_in, scripted_in}
use Rattle.am_cluster_calls.specs.declared.threads.ThreadScript.{ThreadScript}
use Rattle.am_cluster_calls.proofs.Fewest.{fewest_ranged, fewest_read}
use Rattle.am_cluster_scripted.proofs.scripted.ScriptedClusterDrainable.fewest.Goals as goal

pub returns-clause-value : goal.returns-clause-value
returns-clause-value c =
    let s = c.self.inside.scenario.now in
    let past = c.self.inside.cluster.journal in
    let ts = c.self.inside.threads.items in
    let few : IsFewest left_in (map scripted_in ts) (option_map left_of c.fewest_from.result) =
    subst (λ (l : List ThreadScript). IsFewest left_in (map scripted_in l) (option_map left_of c.fewest_from.result)) c.deref.ensures.value
    c.fewest_from.ensures in
    subst (λ (w : RunView). IsFewest (left_to w.scenario w.journal) w.scenario.threads (option_map left_of c.fewest_from.result)) c.self.view_is
    (fewest_read s past (map scripted_in ts) (option_map left_of c.fewest_from.result) c.self.invariant.threads few)

pub returns-clause-in_range : goal.returns-clause-in_range
returns-clause-in_range c =
    let s = c.self.inside.scenario.now in
    let past = c.self.inside.cluster.journal in
    let ts = c.self.inside.threads.items in
    let few : IsFewest left_in (map scripted_in ts) (option_map left_of c.fewest_from.result) =
    subst (λ (l : List ThreadScript). IsFewest left_in (map scripted_in l) (option_map left_of c.fewest_from.result)) c.deref.ensures.value
    c.fewest_from.ensures in
    subst (λ (w : RunView). IfSome c.fewest_from.result (λ (l : LeftCall). is_in_range (layout_of w.scenario) (call_event l.call) ≡ true)) c.self.view_is
    (fewest_ranged s past (map scripted_in ts) c.fewest_from.result c.self.invariant.parts.lawful c.self.invariant.threads few)
