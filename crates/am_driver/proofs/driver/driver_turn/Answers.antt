use Rattle.std.proofs.Common.{◌≡◌, ◌∙◌, ◌<◌, ap, arith, length, refl, sym}
use Rattle.am_driver_moves.specs.Choice.Moves.{next_move}
use Rattle.am_driver_moves.specs.Choice.Shown.{event_of}
use Rattle.am_workers_laws.proofs.Drivers.{drivers_rest}
use Rattle.am_driver.proofs.Turning.{has_line, line_found, looks_can, looks_long, looks_same, looks_works, moved_can, moved_works, moves_one}
use Rattle.am_driver.proofs.Turning.{named_there, nothing_of, stopped_can, stopped_same, stopped_works, turned_same, turns_so}
use Rattle.am_driver.proofs.driver.driver_turn.Goals as goal

pub returns-in-Err-clause-can : goal.returns-in-Err-clause-can
returns-in-Err-clause-can g c = let l = c.look_at_each.new in let a = c.args in
    stopped_can c.in-Err.busy.holder a.places.now.frames a.node a.view.now l.view (g.S.Swap.device a.swap.now) a.seat.now.token.me.0 l.seat.token.me.0
    c.requires.can
    c.in-Err.ensures.busy

pub returns-in-Err-clause-works : goal.returns-in-Err-clause-works
returns-in-Err-clause-works g c s ids n of h = let l = c.look_at_each.new in let a = c.args in
    stopped_works c.in-Err.busy.holder s ids a.node n a.clock.now a.view.now l.view (g.S.Swap.device a.swap.now) a.seat.now.token.me.0 l.seat.token.me.0 h
    c.in-Err.ensures.busy

pub returns-in-Err-clause-seat : goal.returns-in-Err-clause-seat
returns-in-Err-clause-seat g c = let l = c.look_at_each.new in let a = c.args in
    stopped_same c.in-Err.busy.holder a.view.now l.view a.seat.now.token.me.0 l.seat.token.me.0 c.in-Err.ensures.busy

pub returns-in_default-event_of-clause-seat : goal.returns-in_default-event_of-clause-seat
returns-in_default-event_of-clause-seat g c = let l = c.look_at_each.new in let a = c.args in
    looks_same (length a.view.now.ends) a.view.now l.view a.seat.now.token.me.0 l.seat.token.me.0 c.in_default.ensures.looked

pub returns-clause-seat : goal.returns-clause-seat
returns-clause-seat g c = let l = c.look_at_each.new in let a = c.args in let m = c.move_turn.new in
    turned_same (length a.view.now.ends) a.node c.in-Some-line_at.at a.clock.now m.clock a.view.now l.view m.view (g.S.Swap.device a.swap.now)
    (g.S.Swap.device m.swap) a.seat.now.token.me.0
    l.seat.token.me.0 m.seat.token.me.0 c.move_turn.result c.in_default.ensures.looked c.move_turn.ensures.turn

pub returns-in_default-event_of-clause-can : goal.returns-in_default-event_of-clause-can
returns-in_default-event_of-clause-can g c = let l = c.look_at_each.new in let a = c.args in
    looks_can (length a.view.now.ends) a.places.now.frames a.node a.view.now l.view (g.S.Swap.device a.swap.now) a.seat.now.token.me.0 l.seat.token.me.0
    c.requires.can
    c.in_default.ensures.looked

pub returns-in_default-event_of-clause-works : goal.returns-in_default-event_of-clause-works
returns-in_default-event_of-clause-works g c s ids n of h = let l = c.look_at_each.new in let a = c.args in
    drivers_rest s ids a.node n a.clock.now l.view (g.S.Swap.device a.swap.now) l.seat.token.me.0
    (looks_works (length a.view.now.ends) s ids a.node n a.clock.now a.view.now l.view (g.S.Swap.device a.swap.now) a.seat.now.token.me.0 l.seat.token.me.0 h
    c.in_default.ensures.looked)

pub returns-in_default-event_of-clause-turn : goal.returns-in_default-event_of-clause-turn
returns-in_default-event_of-clause-turn g c = let l = c.look_at_each.new in (
  c.in_default.ensures.looked,
  nothing_of c.args.node (next_move l.view) (ap (event_of c.args.node) (sym c.next_move-chosen.ensures.rules)
      ∙ sym c.event_of.ensures ∙ c.in_default-event_of.is),
  (refl, refl),
)

pub unreachable-requires : goal.unreachable-requires
unreachable-requires g c = let l = c.look_at_each.new in
    moves_one c.args.node (next_move l.view) c.in-Some.event (ap (event_of c.args.node) (sym c.next_move-chosen.ensures.rules) ∙ sym c.event_of.ensures
    ∙ c.in-Some.is) (sym c.end_moved.ensures ∙ c.in_default-end_moved.is)

pub unreachable-requires-in_default-line_at : goal.unreachable-requires-in_default-line_at
unreachable-requires-in_default-line_at g c = let l = c.look_at_each.new in let a = c.args in
    has_line l.view a.node c.in-Some.event c.in-Some-end_moved.end (ap (event_of a.node) (sym c.next_move-chosen.ensures.rules) ∙ sym c.event_of.ensures
    ∙ c.in-Some.is) (sym c.end_moved.ensures ∙ c.in-Some-end_moved.is) (sym c.line_at.ensures ∙ c.in_default-line_at.is)

pub move_turn-requires-clause-can : goal.move_turn-requires-clause-can
move_turn-requires-clause-can g c = let l = c.look_at_each.new in let a = c.args in
    looks_can (length a.view.now.ends) a.places.now.frames a.node a.view.now l.view (g.S.Swap.device a.swap.now) a.seat.now.token.me.0 l.seat.token.me.0
    c.requires.can
    c.in_default.ensures.looked

pub move_turn-requires-clause-count : goal.move_turn-requires-clause-count
move_turn-requires-clause-count g c = let l = c.look_at_each.new in
    c.requires.count ∙ looks_long (length c.args.view.now.ends) c.args.view.now l.view c.args.seat.now.token.me.0 l.seat.token.me.0 c.in_default.ensures.looked

pub move_turn-requires-clause-at : goal.move_turn-requires-clause-at
move_turn-requires-clause-at g c = let l = c.look_at_each.new in
    let long : c.args.places.now.count ≡ length l.view.ends = c.requires.count
    ∙ looks_long (length c.args.view.now.ends) c.args.view.now l.view c.args.seat.now.token.me.0 l.seat.token.me.0 c.in_default.ensures.looked in
    let found = line_found c.in-Some-end_moved.end l.view.ends c.in-Some-line_at.at (sym c.line_at.ensures ∙ c.in-Some-line_at.is) in
    let low : c.in-Some-line_at.at < length l.view.ends = found.low in
    omega (arith, low, long)

pub move_turn-requires-clause-end : goal.move_turn-requires-clause-end
move_turn-requires-clause-end g c = let l = c.look_at_each.new in let a = c.args in
    named_there a.places.now.frames a.node l.view (g.S.Swap.device a.swap.now) l.seat.token.me.0 c.in-Some.event c.in-Some-end_moved.end c.in-Some-line_at.at
    (looks_can (length a.view.now.ends) a.places.now.frames a.node a.view.now l.view (g.S.Swap.device a.swap.now) a.seat.now.token.me.0 l.seat.token.me.0
    c.requires.can
    c.in_default.ensures.looked)
    (sym c.end_moved.ensures ∙ c.in-Some-end_moved.is) (sym c.line_at.ensures ∙ c.in-Some-line_at.is)

pub returns-clause-turn : goal.returns-clause-turn
returns-clause-turn g c = let l = c.look_at_each.new in let a = c.args in let m = c.move_turn.new in
    turns_so (length a.view.now.ends) a.node c.in-Some-line_at.at a.clock.now m.clock a.view.now l.view m.view (g.S.Swap.device a.swap.now)
    (g.S.Swap.device m.swap) a.seat.now.token.me.0
    l.seat.token.me.0 m.seat.token.me.0 c.in-Some.event c.move_turn.result
    c.in_default.ensures.looked (ap (event_of a.node) (sym c.next_move-chosen.ensures.rules) ∙ sym c.event_of.ensures ∙ c.in-Some.is)
    (named_there a.places.now.frames a.node l.view (g.S.Swap.device a.swap.now) l.seat.token.me.0 c.in-Some.event c.in-Some-end_moved.end c.in-Some-line_at.at
    (looks_can (length a.view.now.ends) a.places.now.frames a.node a.view.now l.view (g.S.Swap.device a.swap.now) a.seat.now.token.me.0 l.seat.token.me.0
    c.requires.can
    c.in_default.ensures.looked)
    (sym c.end_moved.ensures ∙ c.in-Some-end_moved.is) (sym c.line_at.ensures ∙ c.in-Some-line_at.is))
    c.move_turn.ensures.turn

pub returns-clause-can : goal.returns-clause-can
returns-clause-can g c = let l = c.look_at_each.new in let a = c.args in let m = c.move_turn.new in
    moved_can a.places.now.frames a.node c.in-Some-line_at.at a.clock.now m.clock l.view m.view (g.S.Swap.device a.swap.now) (g.S.Swap.device m.swap)
    l.seat.token.me.0 m.seat.token.me.0
    c.move_turn.result
    (looks_can (length a.view.now.ends) a.places.now.frames a.node a.view.now l.view (g.S.Swap.device a.swap.now) a.seat.now.token.me.0 l.seat.token.me.0
    c.requires.can
    c.in_default.ensures.looked) c.move_turn.ensures.turn

pub returns-clause-works : goal.returns-clause-works
returns-clause-works g c s ids n of h = let l = c.look_at_each.new in let a = c.args in let m = c.move_turn.new in
    moved_works s ids a.node n c.in-Some-line_at.at a.clock.now m.clock l.view m.view (g.S.Swap.device a.swap.now) (g.S.Swap.device m.swap) l.seat.token.me.0
    m.seat.token.me.0 c.move_turn.result
    of
    (looks_works (length a.view.now.ends) s ids a.node n a.clock.now a.view.now l.view (g.S.Swap.device a.swap.now) a.seat.now.token.me.0 l.seat.token.me.0 h
    c.in_default.ensures.looked) c.move_turn.ensures.turn
