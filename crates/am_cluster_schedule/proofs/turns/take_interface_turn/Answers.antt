use Rattle.std.proofs.Common.{refl}
use Rattle.am_cluster_schedule.proofs.InTurn.{interface_turned}
use Rattle.am_cluster_schedule.proofs.turns.take_interface_turn.Goals as goal

pub turn_as_interface-requires-clause-at_work : goal.turn_as_interface-requires-clause-at_work
turn_as_interface-requires-clause-at_work c = c.requires.at_work

pub returns-clause-within : goal.returns-clause-within
returns-clause-within c =
    let t = c.turn_as_interface in
    interface_turned c.args.scenario.now c.args.crew.now c.requires.within t.new.worker c.args.number c.requires.low t.ensures.at_work (record {
      seat = t.ensures.seat;
      outs = t.ensures.outs;
      ins = t.ensures.ins;
    })

pub returns-clause-at_work : goal.returns-clause-at_work
returns-clause-at_work c = c.turn_as_interface.ensures.at_work

pub returns-clause-turns : goal.returns-clause-turns
returns-clause-turns c =
    let t = c.turn_as_interface in
    record { after = t.new.worker; turned = record { turn = t.ensures.turn; stopped = t.ensures.stopped }; crew = refl }

pub returns-clause-same : goal.returns-clause-same
returns-clause-same c = record { node = refl; outs = c.turn_as_interface.ensures.outs; ins = c.turn_as_interface.ensures.ins }
