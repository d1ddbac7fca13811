use Rattle.std.proofs.Common.{ap, ◌∙◌, arith}
use Rattle.am_block.proofs.Callers.{walk-start}
use Rattle.am_block.specs.Pools.{Pools, size}
use Rattle.am_endpoint_body.specs.Walks.{answered_at}
use Rattle.am_endpoint_body.proofs.Marked.{answer_end, answer_step, flight_below, length-answered, written_below}
use Rattle.am_endpoint_body.proofs.Walking.{not_Some}
use Rattle.am_endpoint_body.proofs.walks.answer_flights.Goals as goal

pub loop-next-init : goal.loop-next-init
loop-next-init c =
    let p = c.args.block.now in
    let w = walk-start p.in_flight c.front-next.result c.front-next.ensures.slot in
    record {
      block = c.front-next.ensures.block;
      stands = w.1;
      answered = ap (λ xs. record p { descriptors = answered_at c.args.request xs p.descriptors }) w.0;
    }

pub get-requires : goal.get-requires
get-requires c = flight_below c.loop-next.block c.loop-next.next c.in-Some.slot c.loop-next.invariant.block c.in-Some.is c.loop-next.invariant.stands

pub get_mut-requires : goal.get_mut-requires
get_mut-requires c = flight_below c.loop-next.block c.loop-next.next c.in-Some.slot c.loop-next.invariant.block c.in-Some.is c.loop-next.invariant.stands

pub after-next-requires : goal.after-next-requires
after-next-requires c = written_below c.loop-next.block c.loop-next.next c.in-Some.slot c.as_answered-answered.result c.loop-next.invariant.block c.in-Some.is
    c.loop-next.invariant.stands

pub loop-next-smaller : goal.loop-next-smaller
loop-next-smaller c =
    let step = answer_step c.args.request c.loop-next.block _ c.loop-next.next c.after-next.result c.in-Some.slot c.get.result.now c.as_answered-answered.result
    c.loop-next.invariant.block c.in-Some.is c.loop-next.invariant.stands c.get.ensures c.as_answered-answered.ensures c.after-next.ensures.slot
    c.loop-next.invariant.answered in
    omega (arith, step.shorter)

pub loop-next-preserved : goal.loop-next-preserved
loop-next-preserved c =
    let step = answer_step c.args.request c.loop-next.block _ c.loop-next.next c.after-next.result c.in-Some.slot c.get.result.now c.as_answered-answered.result
    c.loop-next.invariant.block c.in-Some.is c.loop-next.invariant.stands c.get.ensures c.as_answered-answered.ensures c.after-next.ensures.slot
    c.loop-next.invariant.answered in
    record { block = step.block; stands = step.stands; answered = step.answered }

pub returns-clause-answered : goal.returns-clause-answered
returns-clause-answered c = answer_end c.args.request c.loop-next.block _ c.loop-next.next (not_Some c.loop-next.next c.in_default.not-Some)
    c.loop-next.invariant.answered

pub returns-clause-size : goal.returns-clause-size
returns-clause-size c =
    ap (λ (p : Pools). size p) (answer_end c.args.request c.loop-next.block _ c.loop-next.next (not_Some c.loop-next.next c.in_default.not-Some)
    c.loop-next.invariant.answered)
    ∙ length-answered c.args.request c.args.block.now.in_flight c.args.block.now.descriptors
