use Rattle.std.proofs.Common.{◌≡◌, Some}
use Rattle.am_workers_laws.specs.Invariants.Seats.{SameSeat}
use Rattle.am_workers.specs.AtWork.{IsInterfaceAtWork, SameIns, SameOuts}
use Rattle.am_workers.specs.declared.workers.Stop.{Stop}
use Rattle.am_workers.proofs.interfaces.work_as_interface.Given as goal

abbrev pub invariant-loop-turn : goal.invariant-loop-turn
invariant-loop-turn g l = record {
  at_work : IsInterfaceAtWork l.scenario l.places.board.shared.table_id l.places.ids.items l.node l.turn l.worker;
  seat : SameSeat l.initial.worker.seat.token.me.0 l.worker.seat.token.me.0;
  outs : SameOuts l.initial.worker.outs.items l.worker.outs.items;
  ins : SameIns l.initial.worker.ins.items l.worker.ins.items;
  stopped : (why : Stop) → l.initial.worker.stop ≡ Some why → l.worker ≡ l.initial.worker;
}
