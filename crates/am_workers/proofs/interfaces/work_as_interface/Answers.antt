use Rattle.std.proofs.Common.{◌≡◌, ◌≤◌, refl, ap, ◌∙◌, subst}
use Rattle.am_scenario_types.specs.Lists.{ScenarioLists}
use Rattle.am_driver.proofs.Turning.{same_then}
use Rattle.am_workers.specs.declared.workers.InterfaceWorker.{InterfaceWorker}
use Rattle.am_workers.proofs.Linking.{ins_itself, ins_then, outs_itself, outs_then}
use Rattle.am_workers.proofs.Turned.{at_more}
use Rattle.am_workers.proofs.interfaces.work_as_interface.Goals as goal

pub loop-turn-init : goal.loop-turn-init
loop-turn-init g c =
    let w = c.args.worker.now in record {
      at_work = c.requires.at_work;
      seat = record { mark = refl; seats = refl; births = refl };
      outs = outs_itself w.outs.items;
      ins = ins_itself w.ins.items;
      stopped = λ why at. refl;
    }

pub loop-turn-preserved : goal.loop-turn-preserved
loop-turn-preserved g c =
    let w = c.args.worker.now in let u = c.loop-turn.worker in let t = c.turn_as_interface in
    record {
      at_work = t.ensures.at_work;
      seat = same_then w.seat.token.me.0 u.seat.token.me.0 t.new.worker.seat.token.me.0 c.loop-turn.invariant.seat t.ensures.seat;
      outs = outs_then w.outs.items u.outs.items t.new.worker.outs.items c.loop-turn.invariant.outs t.ensures.outs;
      ins = ins_then w.ins.items u.ins.items t.new.worker.ins.items c.loop-turn.invariant.ins t.ensures.ins;
      stopped = λ why at. (let same : u ≡ w = c.loop-turn.invariant.stopped why at in t.ensures.stopped why (ap (λ (z : InterfaceWorker). z.stop) same ∙ at)
          ∙ same);
    }

pub returns-clause-at_work : goal.returns-clause-at_work
returns-clause-at_work g c =
    at_more c.args.scenario.now c.args.places.now.board.shared.table_id c.args.places.now.ids.items c.args.node c.loop-turn.turn c.args.scenario.now.turns
    c.loop-turn.worker (subst (λ (v : ScenarioLists). c.loop-turn.turn ≤ v.turns) c.scenario.view_is c.loop-turn.auto.turn-end)
    c.loop-turn.invariant.at_work
