use Rattle.std.proofs.Common.{[], ◌∙◌, ap, refl, sym, append-nil}
use Rattle.atomic_table.specs.Seated.{TableId}
use Rattle.am_workers_laws.proofs.Staying.{Stands, driver_stayed, same_frames, stands_of}
use Rattle.am_driver.proofs.Looking.{looked}
use Rattle.am_driver.proofs.looks.look.Goals as goal

pub returns-in-Ok-clause-looked : goal.returns-in-Ok-clause-looked
returns-in-Ok-clause-looked c =
    let p = c.args.places.now in let t = c.args.seat.now in let b = c.in-Ok.entered.book in let w = c.in-Ok.ensures.book in
    let s : Stands c.args.at t.token.me = stands_of c.args.at p.count t.token.table_id.slots t.mark t.token.me
    (ap (λ (i : TableId). i.slots) c.requires.idle.table
    ∙ p.sized.1) t.sized c.requires.at c.requires.idle.hand c.requires.idle.outside t.marked.1 t.marked.3 in
    looked c.args.at c.args.view.now c.show.new.view t.token.me.0 c.leave.new.seat.token.me.0 b.end.value.settings _ w.0 b.end.value.log c.line_in.result
    (driver_stayed t.token.me.0.frames c.args.at c.in-Ok.entered.at t.token.me c.try_enter_at.new.seat.token.me c.try_enter_at.new.seat.token.me
    c.leave.new.seat.token.me b b [] c.try_enter_at.new.seat.mark s w (same_frames c.args.at c.in-Ok.entered.at t.token.me c.try_enter_at.new.seat.token.me
    b w) (sym c.try_enter_at.new.seat.marked.1) c.leave.ensures.tenure refl (sym (append-nil b.end.value.log)))
    w.2.stands_for c.line_in.ensures c.show.ensures
