use Rattle.am_example_calls.proofs.Asking.{is_set_up}
use Rattle.am_example_calls.proofs.answers.set_up.Goals as goal

pub returns : goal.returns
returns c = λ new.
    is_set_up 2 1_000 _ (record { 0 = 100 }) (record { 0 = 100 }) c.args.plan.now c.args.draft.now c.set.new.self c.set-2.new.self
    c.on_each_node.new.self c.plans.new.self c.calls.new.self c.handler.result c.map.result new c.in_ok-set.ensures.ok
    c.in_ok-set-2.ensures.ok c.in_ok-on_each_node.ensures.ok c.in_ok-plans.ensures.ok c.in_ok-calls.ensures.ok c.handler.ensures c.map.ensures
