use Rattle.std.proofs.Common.{ap, map, take, ◌∙◌}
use Rattle.am_scenario_types.specs.Lists.{ScenarioLists}
use Rattle.am_cluster_calls.specs.Threads.{scripted_in}
use Rattle.am_cluster_calls.proofs.Counting.{begun_distinct, script_step}
use Rattle.am_cluster_calls.proofs.threads.all_scripts.Goals as goal

pub add_call-requires : goal.add_call-requires
add_call-requires c = begun_distinct c.args.scenario.now (take c.loop-call.call-index c.args.scenario.now.script) (map scripted_in c.loop-call.threads.items)
    c.requires c.loop-call.invariant

pub loop-call-preserved : goal.loop-call-preserved
loop-call-preserved c =
    script_step c.args.scenario.now.script c.deref-call-items.result.now c.args.scenario.now.threads c.loop-call.call-index _ _ _
    (c.deref-call-items.ensures.value ∙ ap (λ (s : ScenarioLists). s.script) c.scenario.view_is) c.loop-call-test.true c.loop-call.invariant
    c.in_ok-add_call.ensures
