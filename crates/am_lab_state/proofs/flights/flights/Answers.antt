use Rattle.std.proofs.Common.{ap, ◌∙◌, arith, length}
use Rattle.am_block.proofs.Fresh.{below-get}
use Rattle.am_block.proofs.Callers.{walk-after}
use Rattle.am_block.specs.Pools.{place, slots}
use Rattle.am_block.specs.Walk.{from_slot}
use Rattle.am_endpoint_body.specs.Views.{flying_in}
use Rattle.am_endpoint_body.proofs.Copying.{copies_more}
use Rattle.am_endpoint_body.proofs.Walking.{stands_of}
use Rattle.am_lab_state.proofs.flights.flights.Goals as goal

pub get-requires : goal.get-requires
get-requires c =
    let xs = slots c.args.block.now c.args.list in
    below-get c.args.block.now c.args.list (place c.in-Some.slot.0 xs) c.in-Some.slot.0 c.loop-next.invariant.block
    (stands_of xs _ c.in-Some.slot c.in-Some.is c.loop-next.invariant.stands)

pub after-next-requires : goal.after-next-requires
after-next-requires c =
    let xs = slots c.args.block.now c.args.list in
    below-get c.args.block.now c.args.list (place c.in-Some.slot.0 xs) c.in-Some.slot.0 c.loop-next.invariant.block
    (stands_of xs _ c.in-Some.slot c.in-Some.is c.loop-next.invariant.stands)

pub loop-next-smaller : goal.loop-next-smaller
loop-next-smaller c =
    let xs = slots c.args.block.now c.args.list in
    let step = walk-after c.args.block.now c.args.list c.in-Some.slot c.after-next.result c.loop-next.invariant.block
    (stands_of xs _ c.in-Some.slot c.in-Some.is c.loop-next.invariant.stands) c.after-next.ensures.slot in
    let e = ap length (ap (λ o. from_slot xs o) c.in-Some.is ∙ step.0) in
    omega arith

pub loop-next-preserved : goal.loop-next-preserved
loop-next-preserved c =
    let p = c.args.block.now in
    let xs = slots p c.args.list in
    let step = walk-after p c.args.list c.in-Some.slot c.after-next.result c.loop-next.invariant.block
    (stands_of xs _ c.in-Some.slot c.in-Some.is c.loop-next.invariant.stands) c.after-next.ensures.slot in
    record {
      block = c.loop-next.invariant.block;
      stands = step.1;
      copied = copies_more flying_in p.descriptors c.in-Some.slot.0 c.get.result.now c.flying_of.result c.loop-next.copy.items c.push.new.self.items _
          (from_slot xs c.loop-next.next) _ c.get.ensures c.flying_of.ensures c.in_ok-push.ensures.items (ap (λ o. from_slot xs o) c.in-Some.is
          ∙ step.0) c.loop-next.invariant.copied;
    }
