use Rattle.std.proofs.Common.{rules, ◌≡◌, ℕ, Some, List, length, sym, subst, arith}
use Rattle.std.specs.Prelude.{slice_get}
use Rattle.am_cluster_opening.specs.Node.Openings.{EndSeat}
use Rattle.am_cluster_opening.proofs.Lists.{none_left}
use Rattle.am_cluster_opening.proofs.Seated.{AreSeating, seating_begins, seating_ends, seating_low, seating_more}
use Rattle.am_cluster_opening.proofs.making.open_threads.Goals as goal

pub loop-seat-init : goal.loop-seat-init
loop-seat-init c = coe 0 1 (i. AreSeating c.args.scenario.now c.args.ids.now c.args.seats.now.items (sym c.reverse.ensures.items i)
    (sym c.new-threads.ensures.items i)) (seating_begins c.args.scenario.now c.args.ids.now c.args.seats.now.items)

pub id_at-id-requires : goal.id_at-id-requires
id_at-id-requires c =
    let so = subst (λ (rest : List EndSeat). AreSeating c.args.scenario.now c.args.ids.now c.args.seats.now.items rest c.loop-seat.threads.items)
    c.in-Some.ensures.items c.loop-seat.invariant in
    let n : c.len.result ≡ length c.loop-seat.threads.items = search rules in
    let low = seating_low c.args.scenario.now c.args.ids.now c.args.seats.now.items c.pop.new.self.items c.in-Some.seat c.loop-seat.threads.items c.requires so
    in
    omega (arith, n, low)

pub loop-seat-preserved : goal.loop-seat-preserved
loop-seat-preserved c =
    let so = subst (λ (rest : List EndSeat). AreSeating c.args.scenario.now c.args.ids.now c.args.seats.now.items rest c.loop-seat.threads.items)
    c.in-Some.ensures.items c.loop-seat.invariant in
    let n : c.len.result ≡ length c.loop-seat.threads.items = search rules in
    let at : slice_get c.args.ids.now (length c.loop-seat.threads.items) ≡ Some c.id_at-id.result =
    subst (λ (k : ℕ). slice_get c.args.ids.now k ≡ Some c.id_at-id.result) n c.id_at-id.ensures in
    subst (AreSeating c.args.scenario.now c.args.ids.now c.args.seats.now.items c.pop.new.self.items) (sym c.in_ok-push.ensures.items)
    (seating_more c.args.scenario.now c.args.ids.now c.args.seats.now.items c.pop.new.self.items c.in-Some.seat c.loop-seat.threads.items c.requires so
    c.id_at-id.result c.in_ok-thread.thread at c.in_ok-thread.ensures)

pub returns : goal.returns
returns c =
    let none = none_left c.loop-seat.seats.items (let items = c.loop-seat.seats.ok.0 in let empty = c.in_default.ensures.cases.0 in
    omega (arith, items, empty)) in
    seating_ends c.args.scenario.now c.args.ids.now c.args.seats.now.items c.loop-seat.threads.items c.requires
    (subst (λ (rest : List EndSeat). AreSeating c.args.scenario.now c.args.ids.now c.args.seats.now.items rest c.loop-seat.threads.items) none
    c.loop-seat.invariant)
