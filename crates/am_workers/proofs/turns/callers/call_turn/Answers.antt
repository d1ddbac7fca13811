use Rattle.std.proofs.Common.{◌≡◌, ℕ, ◌+◌, Some, arith, slice_get, sym, ◌∙◌, subst}
use Rattle.std.proofs.lemmas.Option.{slice_get_within}
use Rattle.am_workers.specs.Turns.Callers.{next_after}
use Rattle.am_workers_laws.specs.Invariants.Works.{ThreadWorks}
use Rattle.am_workers.proofs.Same.{due_here, thread_same}
use Rattle.am_workers.proofs.TurnsTaken.{idle_keeps, turn_keeps}
use Rattle.am_workers.proofs.turns.callers.call_turn.Goals as goal

pub returns-clause-seat : goal.returns-clause-seat
returns-clause-seat c =
    let t = c.thread_turn-turn in thread_same c.in-Some-place_of.at c.args.thread c.in-Some.call.call c.args.clock.now t.result c.args.seat.now.token.me.0
    t.new.seat.token.me.0 t.ensures.turn

pub returns-clause-works : goal.returns-clause-works
returns-clause-works c s turns script works =
    let t = c.thread_turn-turn in
    let at : slice_get c.args.script.now c.args.next.now ≡ Some c.in-Some.call = sym c.call_at.ensures ∙ c.in-Some.is in
    subst (λ (n : ℕ). ThreadWorks s c.args.ids.now c.args.thread (turns + 1) n t.new.clock t.new.seat.token.me.0) (sym c.next_after.ensures)
    (subst (λ (m : ℕ). ThreadWorks s c.args.ids.now c.args.thread (turns + 1) (next_after c.args.next.now t.result) m t.new.seat.token.me.0)
    (sym t.ensures.clock)
    (turn_keeps s c.args.ids.now c.args.thread turns c.args.next.now c.args.clock.now c.in-Some-place_of.at c.in-Some.call c.args.script.now t.result
    c.args.seat.now.token.me.0 t.new.seat.token.me.0
    script at c.in-Some-place_of.ensures.there works t.ensures.turn))

pub returns-clause-turn : goal.returns-clause-turn
returns-clause-turn c =
    let t = c.thread_turn-turn in
    let at : slice_get c.args.script.now c.args.next.now ≡ Some c.in-Some.call = sym c.call_at.ensures ∙ c.in-Some.is in (
      c.in-Some-place_of.at,
      c.in-Some.call.call,
      due_here c.args.ids.now (slice_get c.args.script.now c.args.next.now) c.in-Some.call c.in-Some-place_of.at at
          (sym c.place_of.ensures.place ∙ c.in-Some-place_of.is),
      t.ensures.turn,
    )

pub returns-in_default-clause-works : goal.returns-in_default-clause-works
returns-in_default-clause-works c s turns script works = idle_keeps s c.args.ids.now c.args.thread turns c.args.next.now c.args.clock.now c.args.seat.now.token.me.0 works

pub next_after-requires : goal.next_after-requires
next_after-requires c =
    let at : slice_get c.args.script.now c.args.next.now ≡ Some c.in-Some.call = sym c.call_at.ensures ∙ c.in-Some.is in
    let near = slice_get_within c.args.script.now c.args.next.now c.in-Some.call at in let few = c.requires.few in omega (arith, near, few)

pub thread_turn-turn-requires-clause-at : goal.thread_turn-turn-requires-clause-at
thread_turn-turn-requires-clause-at c =
    let near = slice_get_within c.args.ids.now c.in-Some-place_of.at c.in-Some.call.endpoint c.in-Some-place_of.ensures.there in
    let all = c.requires.count in omega (arith, near, all)

pub thread_turn-turn-requires-clause-numbers : goal.thread_turn-turn-requires-clause-numbers
thread_turn-turn-requires-clause-numbers c set born =
    c.requires.numbers c.in-Some-place_of.at c.args.next.now set c.in-Some.call born (sym c.call_at.ensures ∙ c.in-Some.is)
