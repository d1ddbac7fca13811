use Rattle.std.proofs.Common.{◌+◌, refl, subst}
use Rattle.am_names.specs.declared.NodeId.{NodeId}
use Rattle.am_cluster_running.specs.Running.{IsDriverAt}
use Rattle.am_cluster_schedule.proofs.InTurn.{crew_itself, driver_turned}
use Rattle.am_cluster_schedule.proofs.turns.take_driver_turn.Goals as goal

pub returns-clause-within : goal.returns-clause-within
returns-clause-within c =
    let t = c.turn_as_driver in
    driver_turned c.args.scenario.now c.args.crew.now c.requires.within t.new.worker c.args.number c.requires.low
    (subst (λ (n : NodeId). IsDriverAt c.args.scenario.now n c.args.crew.now.places (c.args.number + 1) t.new.worker)
    c.requires.within.driver.is_node t.ensures.at_work)
    (record { seat = t.ensures.seat; node = t.ensures.node })

pub returns-clause-at_work : goal.returns-clause-at_work
returns-clause-at_work c =
    let t = c.turn_as_driver in
    subst (λ (n : NodeId). IsDriverAt c.args.scenario.now n c.args.crew.now.places (c.args.number + 1) t.new.worker)
    c.requires.within.driver.is_node t.ensures.at_work

pub returns-clause-turns : goal.returns-clause-turns
returns-clause-turns c =
    let t = c.turn_as_driver in
    record { after = t.new.worker; turned = record { turn = t.ensures.turn; stopped = t.ensures.stopped }; crew = refl }

pub returns-clause-same : goal.returns-clause-same
returns-clause-same c = let same = crew_itself c.args.crew.now in record { node = refl; outs = same.outs; ins = same.ins }
