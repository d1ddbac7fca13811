use Rattle.std.proofs.Common.{◌≡◌, ◌∙◌, rules, ◌+◌, Some, arith, refl, subst, sym}
use Rattle.am_workers_laws.specs.Invariants.Seats.{Ids}
use Rattle.am_workers.specs.WorkerTurns.{AreWhole, FindsWork, Starved, TakesInHand, Turned}
use Rattle.am_workers.specs.Ways.{CanServe, HaveRoom, Serves}
use Rattle.am_workers.specs.declared.workers.Stop.TheVariants as Stops
use Rattle.am_workers.proofs.Linking.{outs_then}
use Rattle.am_workers.proofs.Turned.{at_more, at_stop, can_serve, on_err, on_ok, prepared, prepares_stopped, served}
use Rattle.am_workers.proofs.interfaces.turn_as_interface.Goals as goal

pub returns-then-is_err-clause-at_work : goal.returns-then-is_err-clause-at_work
returns-then-is_err-clause-at_work c =
    let s = c.args.scenario.now in let table = c.args.places.now.board.shared.table_id in let ids = c.args.places.now.ids.items in
    let u = c.prepare.new.worker in
    at_stop s table ids c.args.node (c.args.turn + 1) u (Some Stops.NoMemory)
    (at_more s table ids c.args.node c.args.turn (c.args.turn + 1) u (omega arith) (prepared s table ids c.args.node c.args.turn c.args.worker.now u
    c.prepare.ensures.prepared c.requires.at_work))

pub find_work-requires : goal.find_work-requires
find_work-requires c =
    let s = c.args.scenario.now in let p = c.args.places.now in let table = p.board.shared.table_id in let u = c.prepare.new.worker in
    let ready = prepared s table p.ids.items c.args.node c.args.turn c.args.worker.now u c.prepare.ensures.prepared c.requires.at_work in
    let room : HaveRoom u.outs.items = search rules in
    record {
      can = subst (λ (es : Ids). CanServe table p.count es u) (sym c.as_slice.ensures.value)
          (can_serve s table p.ids.items c.args.node c.args.turn p.count u ready (sym p.sized.2) room);
    }

pub returns-clause-at_work : goal.returns-clause-at_work
returns-clause-at_work c =
    let s = c.args.scenario.now in let table = c.args.places.now.board.shared.table_id in let ids = c.args.places.now.ids.items in
    let u = c.prepare.new.worker in
    served s table ids c.args.node c.args.turn u c.find_work.new.worker c.requires.lawful
    (subst (λ (es : Ids). Serves table es u c.find_work.new.worker) c.as_slice.ensures.value c.find_work.ensures.serves)
    (prepared s table ids c.args.node c.args.turn c.args.worker.now u c.prepare.ensures.prepared c.requires.at_work)

pub returns-clause-outs : goal.returns-clause-outs
returns-clause-outs c = outs_then c.args.worker.now.outs.items c.prepare.new.worker.outs.items c.find_work.new.worker.outs.items
    c.prepare.ensures.prepared.outs.same c.find_work.ensures.serves.outs

pub returns-then-is_err-clause-turn : goal.returns-then-is_err-clause-turn
returns-then-is_err-clause-turn c goes =
    let p = c.prepare in let v = c.args.worker.now in let u = p.new.worker in let failed = sym c.is_err.ensures.value ∙ c.if-is_err.true in
    Starved (prepares_stopped v u (Some Stops.NoMemory) p.ensures.prepared) (on_err p.result (u.hand ≡ v.hand) failed p.ensures.hand)
    (on_err p.result (u.ins ≡ v.ins) failed p.ensures.ins) refl

pub returns-clause-turn : goal.returns-clause-turn
returns-clause-turn c goes =
    let p = c.prepare in let v = c.args.worker.now in let u = p.new.worker in let well = sym c.is_err.ensures.value ∙ c.if-is_err.false in
    Turned u
    (record {
      prepares = p.ensures.prepared;
      whole = on_ok p.result (AreWhole u.outs.items) well p.ensures.whole;
      takes = on_ok p.result (TakesInHand v.hand u.hand v.ins.items v.from u.from) well p.ensures.takes;
      waits = p.ensures.waits;
      end = p.ensures.end;
    })
    (subst (λ (ids : Ids). FindsWork ids u c.find_work.new.worker) c.as_slice.ensures.value c.find_work.ensures.finds)
