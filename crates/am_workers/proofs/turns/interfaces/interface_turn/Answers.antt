use Rattle.std.proofs.Common.{refl, sym, ap, ◌∙◌}
use Rattle.atomic_table.specs.Seated.{TableId}
use Rattle.am_workers.specs.Turns.Turns.{worked_in}
use Rattle.am_workers_laws.proofs.Staying.{M, Stands, is_small, left_idle, may_grow, may_stay, may_still, same_frames, stands_of, stayed_there}
use Rattle.am_workers.proofs.WorkTurns.{interface_turned, still_worked}
use Rattle.am_workers.proofs.turns.interfaces.interface_turn.Goals as goal

pub leave-requires-clause-grown : goal.leave-requires-clause-grown
leave-requires-clause-grown c κs =
    let p = c.args.places.now in let t = c.args.seat.now in let b = c.in-Ok.entered.book in
    let s : Stands c.args.at t.token.me = stands_of c.args.at p.count t.token.table_id.slots t.mark t.token.me
    (ap (λ (i : TableId). i.slots) c.requires.idle.table
    ∙ p.sized.1) t.sized c.requires.at c.requires.idle.hand c.requires.idle.outside t.marked.1 t.marked.3 in
    may_grow c.args.at c.in-Ok.entered.at t.token.me c.try_enter_at.new.seat.token.me b c.work_at-turn.new.book.end.value (worked_in c.work_at-turn.result) s
    c.in-Ok.ensures.book c.work_at-turn.ensures.added

pub leave-requires-clause-stays : goal.leave-requires-clause-stays
leave-requires-clause-stays c κs guest =
    let p = c.args.places.now in let t = c.args.seat.now in let b = c.in-Ok.entered.book in
    let s : Stands c.args.at t.token.me = stands_of c.args.at p.count t.token.table_id.slots t.mark t.token.me
    (ap (λ (i : TableId). i.slots) c.requires.idle.table
    ∙ p.sized.1) t.sized c.requires.at c.requires.idle.hand c.requires.idle.outside t.marked.1 t.marked.3 in
    may_stay c.places_are_kept.ensures c.args.at c.in-Ok.entered.at t.token.me c.try_enter_at.new.seat.token.me b c.work_at-turn.new.book.end.value
    (worked_in c.work_at-turn.result) s c.in-Ok.ensures.book c.work_at-turn.ensures.settings c.work_at-turn.ensures.added
    (still_worked c.args.work.now c.args.interface.now c.work_at-turn.new.interface c.work_at-turn.result b.end.value.settings b.end.value.log
    c.work_at-turn.ensures.found)

pub leave-requires-clause-small : goal.leave-requires-clause-small
leave-requires-clause-small c κs =
    let p = c.args.places.now in let t = c.args.seat.now in let b = c.in-Ok.entered.book in
    let s : Stands c.args.at t.token.me = stands_of c.args.at p.count t.token.table_id.slots t.mark t.token.me
    (ap (λ (i : TableId). i.slots) c.requires.idle.table
    ∙ p.sized.1) t.sized c.requires.at c.requires.idle.hand c.requires.idle.outside t.marked.1 t.marked.3 in
    is_small c.places_are_kept.ensures c.args.at c.in-Ok.entered.at t.token.me c.try_enter_at.new.seat.token.me b c.work_at-turn.new.book.end.value
    (worked_in c.work_at-turn.result) s c.in-Ok.ensures.book c.work_at-turn.ensures.settings c.work_at-turn.ensures.added
    (still_worked c.args.work.now c.args.interface.now c.work_at-turn.new.interface c.work_at-turn.result b.end.value.settings b.end.value.log
    c.work_at-turn.ensures.found)

pub returns-in-Ok-clause-turn : goal.returns-in-Ok-clause-turn
returns-in-Ok-clause-turn c =
    let p = c.args.places.now in let t = c.args.seat.now in let b = c.in-Ok.entered.book in let w = c.in-Ok.ensures.book in
    let s : Stands c.args.at t.token.me = stands_of c.args.at p.count t.token.table_id.slots t.mark t.token.me
    (ap (λ (i : TableId). i.slots) c.requires.idle.table
    ∙ p.sized.1) t.sized c.requires.at c.requires.idle.hand c.requires.idle.outside t.marked.1 t.marked.3 in
    interface_turned c.args.at c.args.work.now c.args.interface.now c.work_at-turn.new.interface c.work_at-turn.result t.token.me.0 c.leave.new.seat.token.me.0
    b.end.value.settings _ w.0 b.end.value.log
    (stayed_there c.args.at c.in-Ok.entered.at t.token.me c.try_enter_at.new.seat.token.me c.leave.new.seat.token.me b c.work_at-turn.new.book
    (worked_in c.work_at-turn.result) c.try_enter_at.new.seat.mark s w (sym c.try_enter_at.new.seat.marked.1) c.leave.ensures.tenure
    c.work_at-turn.ensures.settings c.work_at-turn.ensures.added)
    w.2.stands_for c.work_at-turn.ensures.found

pub returns-in-Ok-clause-idle : goal.returns-in-Ok-clause-idle
returns-in-Ok-clause-idle c =
    let p = c.args.places.now in let t = c.args.seat.now in let b = c.in-Ok.entered.book in let w = c.in-Ok.ensures.book in
    let s : Stands c.args.at t.token.me = stands_of c.args.at p.count t.token.table_id.slots t.mark t.token.me
    (ap (λ (i : TableId). i.slots) c.requires.idle.table
    ∙ p.sized.1) t.sized c.requires.at c.requires.idle.hand c.requires.idle.outside t.marked.1 t.marked.3 in
    left_idle p.board.shared.table_id t.token.me.0.frames c.args.at c.in-Ok.entered.at t.token.me c.try_enter_at.new.seat.token.me
    c.try_enter_at.new.seat.token.me b _ c.leave.new.seat.token s w
    (same_frames c.args.at c.in-Ok.entered.at t.token.me c.try_enter_at.new.seat.token.me b w) refl c.leave.ensures.tenure (c.leave.ensures.seat.0
    ∙ c.in-Ok.ensures.seat.0 ∙ c.requires.idle.table)

pub leave-requires-clause-still : goal.leave-requires-clause-still
leave-requires-clause-still c κs guest =
    let p = c.args.places.now in let t = c.args.seat.now in let b = c.in-Ok.entered.book in
    let s : Stands c.args.at t.token.me = stands_of c.args.at p.count t.token.table_id.slots t.mark t.token.me
    (ap (λ (i : TableId). i.slots) c.requires.idle.table
    ∙ p.sized.1) t.sized c.requires.at c.requires.idle.hand c.requires.idle.outside t.marked.1 t.marked.3 in
    may_still c.args.at c.in-Ok.entered.at t.token.me c.try_enter_at.new.seat.token.me b c.work_at-turn.new.book.end.value
    (worked_in c.work_at-turn.result) s c.in-Ok.ensures.book c.work_at-turn.ensures.added
    (still_worked c.args.work.now c.args.interface.now c.work_at-turn.new.interface c.work_at-turn.result b.end.value.settings b.end.value.log
    c.work_at-turn.ensures.found)

pub leave-requires-clause-fits : goal.leave-requires-clause-fits
leave-requires-clause-fits c κs driver =
    let w = c.in-Ok.ensures.book in
    absurd (c.requires.guest (sym (ap (λ (m : M). m.0.mark) w.3) ∙ driver ∙ ap (λ (m : M). m.0.seats) w.3))
