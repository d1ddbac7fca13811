use Rattle.std.proofs.Common.{◌≡◌, true, sym, ap, ◌∙◌, subst}
use Rattle.am_model_scripts.specs.Follows.{is_thread}
use Rattle.am_model_scripts.specs.Scripts.{call_left}
use Rattle.am_cluster_scripted.specs.Scripted.{RunView}
use Rattle.am_cluster_calls.specs.Threads.{next_in}
use Rattle.am_cluster_scripted.proofs.Nexts.{next_left}
use Rattle.am_cluster_scripted.proofs.scripted.ScriptedCluster.next_call.Goals as goal

pub returns : goal.returns
returns c =
    let s = c.self.inside.scenario.now in
    let past = c.self.inside.cluster.journal in
    subst (λ (w : RunView). c.next_call.result ≡ call_left w.scenario w.journal c.args.thread) c.self.view_is
    (c.next_call.ensures ∙ ap (next_in c.args.thread) c.deref.ensures.value
    ∙ next_left s past c.args.thread c.self.inside.threads.items c.self.invariant.threads
    (subst (λ (w : RunView). is_thread w.scenario c.args.thread ≡ true) (sym c.self.view_is) c.requires))
