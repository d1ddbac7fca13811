use Rattle.std.proofs.Common.{rules, ◌≡◌, ◌<◌, ◌≤◌, ◌*◌, ◌∙◌, ℕ, List, length, IfSome, refl, sym, ap, subst, arith, slice_set}
use Rattle.rand_pcg.specs.Pcg.{pcg32}
use Rattle.am_cluster_schedule.specs.InTurn.{AreInTurn}
use Rattle.am_cluster_schedule.specs.Order.{Schedule, behind, drawn_place, first_turns, scheduled}
use Rattle.am_cluster_schedule.specs.Schedules.{TakesTurns}
use Rattle.am_cluster_schedule.specs.declared.order.Turn.{Turn}
use Rattle.am_cluster_schedule.proofs.InTurn.{links_turned, node_declared, turn_taken}
use Rattle.am_cluster_schedule.proofs.Linked.{at_index}
use Rattle.am_cluster_schedule.proofs.Orders.{crew_there, drawn_at_work, drawn_low, drawn_within, ended_here, few_turns, one_taken, scheduled_none, some_of, some_turns, takes_more, takes_none, turns_begin}
use Rattle.am_cluster_schedule.proofs.turns.take_turns.Goals as goal

pub turns_left-turn-end-requires : goal.turns_left-turn-end-requires
turns_left-turn-end-requires c =
    let s = c.args.scenario.now in
    record { few = subst (λ (ts : List Turn). length ts ≤ 96) (sym c.requires.next) (few_turns s c.requires.lawful) }

pub loop-turn-init : goal.loop-turn-init
loop-turn-init c =
    let s = c.args.scenario.now in let none = scheduled_none s c.args.seed in let cs = c.args.crews.now.items in
    record {
      generator = c.requires.generator ∙ sym (ap (λ (d : Schedule). d.generator) none);
      next = c.requires.next ∙ sym (ap (λ (d : Schedule). d.next) none);
      in_turn = subst (λ (ts : List Turn). AreInTurn s ts cs) (sym c.requires.next) (turns_begin s cs c.requires.crews);
      linked = c.requires.linked;
      turns = subst (λ (d : Schedule). TakesTurns d.taken cs cs) (sym none) (takes_none cs);
    }

pub loop-turn-preserved : goal.loop-turn-preserved
loop-turn-preserved c =
    let s = c.args.scenario.now in let seed = c.args.seed in let n = c.loop-turn._turn in
    let i = c.loop-turn.invariant in
    let turn = c.in-Some.turn in
    let g = c.loop-turn.order.generator in let next = c.loop-turn.order.next.items in
    let drawn = sym c.draw.ensures.drawn ∙ c.in-Some.is in
    let taken = one_taken s seed n g next turn i.generator i.next drawn in
    let cs = c.loop-turn.crews.items in
    let was = c.index_mut-crew.result.now in
    let here = at_index cs turn.worker.crew was (crew_there s next cs (drawn_place g next) turn i.in_turn drawn) c.index_mut-crew.ensures.value in
    let t = c.take_turn in
    let turns : c.scenario.inside.turns ≡ s.turns = search rules in
    let next_is =
    some_of (λ (u : Turn). c.draw.new.self.next.items ≡ behind s.turns next (drawn_place g next) u) c.draw.result turn c.in-Some.is
    (subst (λ (m : ℕ). IfSome c.draw.result (λ (u : Turn). c.draw.new.self.next.items ≡ behind m next (drawn_place g next) u)) turns c.draw.ensures.next)
    in
    record {
      generator =
          some_of (λ (u : Turn). c.draw.new.self.generator ≡ (pcg32 g).1) c.draw.result turn c.in-Some.is c.draw.ensures.generator
          ∙ sym (ap (λ (d : Schedule). d.generator) taken);
      next = next_is ∙ sym (ap (λ (d : Schedule). d.next) taken);
      in_turn = subst (λ (ts : List Turn). AreInTurn s ts (slice_set cs turn.worker.crew t.new.crew)) (sym next_is)
          (turn_taken s next cs (drawn_place g next) turn was t.new.crew i.in_turn drawn here t.ensures.within t.ensures.at_work t.ensures.turns);
      linked = links_turned cs turn.worker.crew was t.new.crew here t.ensures.same i.linked;
      turns = subst (λ (d : Schedule). TakesTurns d.taken c.args.crews.now.items (slice_set cs turn.worker.crew t.new.crew)) (sym taken)
          (takes_more (scheduled s seed n).taken turn.worker c.args.crews.now.items cs (slice_set cs turn.worker.crew t.new.crew) i.turns (record {
            before = was;
            after = t.new.crew;
            here = here;
            turned = t.ensures.turns;
            others = refl;
          }));
    }

pub index_mut-crew-requires : goal.index_mut-crew-requires
index_mut-crew-requires c =
    let s = c.args.scenario.now in
    let i = c.loop-turn.invariant in
    let turn = c.in-Some.turn in
    let next = c.loop-turn.order.next.items in
    let place = drawn_place c.loop-turn.order.generator next in
    let drawn = sym c.draw.ensures.drawn ∙ c.in-Some.is in
    let cs = c.loop-turn.crews.items in
    let low = crew_there s next cs place turn i.in_turn drawn in
    let all = c.loop-turn.crews.ok.0 in
    omega (arith, low, all)

pub take_turn-requires-clause-declared : goal.take_turn-requires-clause-declared
take_turn-requires-clause-declared c =
    let s = c.args.scenario.now in
    let i = c.loop-turn.invariant in
    let turn = c.in-Some.turn in
    let next = c.loop-turn.order.next.items in
    let place = drawn_place c.loop-turn.order.generator next in
    let drawn = sym c.draw.ensures.drawn ∙ c.in-Some.is in
    let cs = c.loop-turn.crews.items in
    let was = c.index_mut-crew.result.now in
    let here = at_index cs turn.worker.crew was (crew_there s next cs place turn i.in_turn drawn) c.index_mut-crew.ensures.value in
    node_declared s cs turn.worker.crew was i.in_turn.crews here

pub take_turn-requires-clause-within : goal.take_turn-requires-clause-within
take_turn-requires-clause-within c =
    let s = c.args.scenario.now in
    let i = c.loop-turn.invariant in
    let turn = c.in-Some.turn in
    let next = c.loop-turn.order.next.items in
    let place = drawn_place c.loop-turn.order.generator next in
    let drawn = sym c.draw.ensures.drawn ∙ c.in-Some.is in
    let cs = c.loop-turn.crews.items in
    let was = c.index_mut-crew.result.now in
    let here = at_index cs turn.worker.crew was (crew_there s next cs place turn i.in_turn drawn) c.index_mut-crew.ensures.value in
    drawn_within s next cs place turn was i.in_turn drawn here

pub take_turn-requires-clause-at_work : goal.take_turn-requires-clause-at_work
take_turn-requires-clause-at_work c =
    let s = c.args.scenario.now in
    let i = c.loop-turn.invariant in
    let turn = c.in-Some.turn in
    let next = c.loop-turn.order.next.items in
    let place = drawn_place c.loop-turn.order.generator next in
    let drawn = sym c.draw.ensures.drawn ∙ c.in-Some.is in
    let cs = c.loop-turn.crews.items in
    let was = c.index_mut-crew.result.now in
    let here = at_index cs turn.worker.crew was (crew_there s next cs place turn i.in_turn drawn) c.index_mut-crew.ensures.value in
    drawn_at_work s next cs place turn was i.in_turn drawn here

pub take_turn-requires-clause-low : goal.take_turn-requires-clause-low
take_turn-requires-clause-low c =
    let s = c.args.scenario.now in
    let i = c.loop-turn.invariant in
    let turn = c.in-Some.turn in
    let next = c.loop-turn.order.next.items in
    let place = drawn_place c.loop-turn.order.generator next in
    let drawn = sym c.draw.ensures.drawn ∙ c.in-Some.is in
    let cs = c.loop-turn.crews.items in
    let was = c.index_mut-crew.result.now in
    let here = at_index cs turn.worker.crew was (crew_there s next cs place turn i.in_turn drawn) c.index_mut-crew.ensures.value in
    let below : c.loop-turn._turn < c.turns_left-turn-end.result = search rules in
    let turns : c.scenario.inside.turns ≡ s.turns = search rules in
    let all = c.turns_left-turn-end.ensures ∙ ap (λ (m : ℕ). length c.args.order.now.next.items * m) turns in
    drawn_low s next cs place turn was i.in_turn drawn here
    (some_turns c.loop-turn._turn (length c.args.order.now.next.items) s.turns (subst (λ (m : ℕ). c.loop-turn._turn < m) all below))

pub returns-in_default-clause-turns : goal.returns-in_default-clause-turns
returns-in_default-clause-turns c =
    let s = c.args.scenario.now in let seed = c.args.seed in let n = c.loop-turn._turn in
    let i = c.loop-turn.invariant in
    let g = c.loop-turn.order.generator in let next = c.loop-turn.order.next.items in
    let none = sym c.draw.ensures.drawn ∙ c.in_default.is in
    let below : c.loop-turn._turn ≤ c.turns_left-turn-end.result = search rules in
    let turns : c.scenario.inside.turns ≡ s.turns = search rules in
    let all =
    c.turns_left-turn-end.ensures
    ∙ ap (λ (m : ℕ). length c.args.order.now.next.items * m) turns
    ∙ ap (λ (ts : List Turn). length ts * s.turns) c.requires.next
    in
    let low = subst (λ (m : ℕ). n ≤ m) all below in
    subst (λ (d : Schedule). TakesTurns d.taken c.args.crews.now.items c.loop-turn.crews.items)
    (sym (ended_here s seed n (length (first_turns s) * s.turns) g next i.generator i.next low none)) i.turns

pub returns-clause-turns : goal.returns-clause-turns
returns-clause-turns c =
    let s = c.args.scenario.now in
    let turns : c.scenario.inside.turns ≡ s.turns = search rules in
    let end : c.loop-turn._turn ≡ c.turns_left-turn-end.result = search rules in
    let all =
    end
    ∙ c.turns_left-turn-end.ensures
    ∙ ap (λ (m : ℕ). length c.args.order.now.next.items * m) turns
    ∙ ap (λ (ts : List Turn). length ts * s.turns) c.requires.next
    in
    subst (λ (n : ℕ). TakesTurns (scheduled s c.args.seed n).taken c.args.crews.now.items c.loop-turn.crews.items) all c.loop-turn.invariant.turns
