use Rattle.std.proofs.Common.{sym, ap, ◌∙◌, arith}
use Rattle.am_scenario_types.specs.Lists.{ScenarioLists}
use Rattle.am_cluster_scripted.proofs.PairMarked.{bound_found, more_free, none_bound}
use Rattle.am_cluster_scripted.proofs.pair_marks.has_some_bound.Goals as goal

pub channels-preserved : goal.channels-preserved
channels-preserved c = more_free c.args.node c.args.peer c.args.cluster.now.journal c.channels.channel c.channels.invariant (sym c.has_bound.ensures
    ∙ c.if-has_bound.false)

pub returns-then-has_bound : goal.returns-then-has_bound
returns-then-has_bound c =
    let seen = ap (λ (s : ScenarioLists). s.channels) c.scenario.view_is in
    let below = c.channels-test.true in
    bound_found c.args.scenario.now c.args.cluster.now.journal c.args.node c.args.peer c.channels.channel (omega (arith, seen, below)) (sym c.has_bound.ensures
    ∙ c.if-has_bound.true)

pub returns : goal.returns
returns c =
    let seen = ap (λ (s : ScenarioLists). s.channels) c.scenario.view_is in
    let past = c.channels-test.false in
    none_bound c.args.scenario.now c.args.cluster.now.journal c.args.node c.args.peer (λ k lt. c.channels.invariant k (omega (arith, seen, past, lt)))
