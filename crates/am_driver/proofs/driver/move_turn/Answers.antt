use Rattle.std.proofs.Common.{◌∙◌, ap, refl, sym}
use Rattle.atomic_table.specs.Seated.{TableId}
use Rattle.am_driver_moves.specs.Choice.Shown.{event_of}
use Rattle.am_workers_laws.proofs.Staying.{stands_of}
use Rattle.am_driver.proofs.Entering.{HasEntered, fits, grown, is_idle, is_small, may_move, may_settle, settled, turns}
use Rattle.am_driver.proofs.driver.move_turn.Goals as goal
use Rattle.am_driver.proofs.driver.move_turn.Goals.{In-Ok}

-- the endpoint is entered
entered : (g : _) (c : In-Ok g) → HasEntered c.args.places.now.frames c.args.node c.args.view.now (g.S.Swap.device c.args.swap.now) c.args.event c.args.at
    c.in-Ok.entered.at c.args.seat.now.token.me c.try_enter_at.new.seat.token.me c.in-Ok.entered.book
entered g c =
    let p = c.args.places.now in let t = c.args.seat.now in
    record {
      stands = stands_of c.args.at p.count t.token.table_id.slots t.mark t.token.me (ap (λ (i : TableId). i.slots) c.requires.idle.table ∙ p.sized.1) t.sized
          c.requires.at c.requires.idle.hand c.requires.idle.outside t.marked.1 t.marked.3;
      there = c.in-Ok.ensures.book;
      drives = c.requires.can;
      chosen = (
        ap (event_of c.args.node) (sym c.requires.chosen) ∙ c.requires.event,
        c.requires.end c.in-Ok.entered.book.end.value.settings c.in-Ok.ensures.book.2.born,
      );
    }

pub decide-turn-requires-clause-can : goal.decide-turn-requires-clause-can
decide-turn-requires-clause-can g c still = may_move (entered g (goal.at.decide-turn-requires-clause-can g c).In-Ok) still

pub settle-requires-clause-can : goal.settle-requires-clause-can
settle-requires-clause-can g c =
    let n = c.decide-turn.new in
    may_settle (entered g (goal.at.settle-requires-clause-can g c).In-Ok) c.args.clock.now n.view (g.S.Swap.device n.swap) c.decide-turn.result c.decide-turn.ensures.found c.in-Ok.entered.frame
    c.in-Ok.ensures.frame

pub leave-requires-clause-grown : goal.leave-requires-clause-grown
leave-requires-clause-grown g c κs =
    let n = c.decide-turn.new in let e = entered g (goal.at.leave-requires-clause-grown g c).In-Ok in
    grown e (settled e c.args.clock.now n.view (g.S.Swap.device n.swap) c.decide-turn.result c.decide-turn.ensures.found c.in-Ok.entered.frame
    c.in-Ok.ensures.frame c.settle.ensures.book c.settle.ensures.frames c.decide-turn.ensures.settings c.decide-turn.ensures.added)

pub leave-requires-clause-small : goal.leave-requires-clause-small
leave-requires-clause-small g c κs =
    let n = c.decide-turn.new in let e = entered g (goal.at.leave-requires-clause-small g c).In-Ok in
    is_small e (settled e c.args.clock.now n.view (g.S.Swap.device n.swap) c.decide-turn.result c.decide-turn.ensures.found c.in-Ok.entered.frame
    c.in-Ok.ensures.frame c.settle.ensures.book c.settle.ensures.frames c.decide-turn.ensures.settings c.decide-turn.ensures.added)
    c.args.places.now.sized.4

pub leave-requires-clause-fits : goal.leave-requires-clause-fits
leave-requires-clause-fits g c κs last =
    let n = c.decide-turn.new in let e = entered g (goal.at.leave-requires-clause-fits g c).In-Ok in
    fits e (settled e c.args.clock.now n.view (g.S.Swap.device n.swap) c.decide-turn.result c.decide-turn.ensures.found c.in-Ok.entered.frame
    c.in-Ok.ensures.frame c.settle.ensures.book c.settle.ensures.frames c.decide-turn.ensures.settings c.decide-turn.ensures.added)

pub returns-in-Ok-clause-idle : goal.returns-in-Ok-clause-idle
returns-in-Ok-clause-idle g c =
    let n = c.decide-turn.new in let e = entered g (goal.at.returns-in-Ok-clause-idle g c).In-Ok in
    is_idle e (settled e c.args.clock.now n.view (g.S.Swap.device n.swap) c.decide-turn.result c.decide-turn.ensures.found c.in-Ok.entered.frame
    c.in-Ok.ensures.frame c.settle.ensures.book c.settle.ensures.frames c.decide-turn.ensures.settings c.decide-turn.ensures.added)
    c.args.places.now.board.shared.table_id _ c.leave.new.seat.token refl c.leave.ensures.tenure
    (c.leave.ensures.seat.0 ∙ c.settle.ensures.seat.0 ∙ c.in-Ok.ensures.seat.0 ∙ c.requires.idle.table)

pub returns-in-Ok-clause-turn : goal.returns-in-Ok-clause-turn
returns-in-Ok-clause-turn g c =
    let n = c.decide-turn.new in let e = entered g (goal.at.returns-in-Ok-clause-turn g c).In-Ok in
    turns e (settled e c.args.clock.now n.view (g.S.Swap.device n.swap) c.decide-turn.result c.decide-turn.ensures.found c.in-Ok.entered.frame
    c.in-Ok.ensures.frame c.settle.ensures.book c.settle.ensures.frames c.decide-turn.ensures.settings c.decide-turn.ensures.added)
    c.clock_after.result c.settle.new.seat.mark c.leave.new.seat.token.me (sym c.settle.new.seat.marked.1) c.leave.ensures.tenure c.clock_after.ensures
