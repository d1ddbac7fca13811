use Rattle.std.proofs.Common.{◌≡◌, ap, sym, ◌∙◌, arith, length, true, false, Some, ℕ, Bool}
use Rattle.std.specs.List.{find}
use Rattle.am_block.proofs.Fresh.{below-get}
use Rattle.am_block.proofs.Callers.{walk-start, walk-after, walk-here}
use Rattle.am_block.specs.Pools.{place, slots}
use Rattle.am_block.specs.Walk.{from_slot}
use Rattle.am_endpoint_body.specs.Walks.{is_sought_at}
use Rattle.am_endpoint_body.proofs.Walking.{find-here, find-past, not_Some, sought_told, stands_of}
use Rattle.am_endpoint_body.proofs.walks.find.Goals as goal

pub loop-next-init : goal.loop-next-init
loop-next-init c =
    let w = walk-start (slots c.args.block.now c.args.list) c.front-next.result c.front-next.ensures.slot in
    record { block = c.front-next.ensures.block; stands = w.1; found = ap (λ ys. find (λ s. is_sought_at c.args.sought c.args.block.now s) ys) (sym w.0) }

pub get-requires : goal.get-requires
get-requires c =
    let xs = slots c.args.block.now c.args.list in
    below-get c.args.block.now c.args.list (place c.in-Some.slot.0 xs) c.in-Some.slot.0 c.loop-next.invariant.block
    (stands_of xs _ c.in-Some.slot c.in-Some.is c.loop-next.invariant.stands)

pub after-next-requires : goal.after-next-requires
after-next-requires c =
    let xs = slots c.args.block.now c.args.list in
    below-get c.args.block.now c.args.list (place c.in-Some.slot.0 xs) c.in-Some.slot.0 c.loop-next.invariant.block
    (stands_of xs _ c.in-Some.slot c.in-Some.is c.loop-next.invariant.stands)

pub returns-then-is_sought-clause-found : goal.returns-then-is_sought-clause-found
returns-then-is_sought-clause-found c =
    let p = c.args.block.now in
    let xs = slots p c.args.list in
    let g : ℕ → Bool = λ s. is_sought_at c.args.sought p s in
    let here = walk-here xs c.in-Some.slot (stands_of xs _ c.in-Some.slot c.in-Some.is c.loop-next.invariant.stands) in
    let is : g c.in-Some.slot.0 ≡ true = sought_told c.args.sought p c.in-Some.slot.0 c.get.result.now c.is_sought.result true c.get.ensures c.is_sought.ensures
    c.if-is_sought.true in
    sym (c.loop-next.invariant.found ∙ ap (λ o. find g (from_slot xs o)) c.in-Some.is ∙ find-here g (from_slot xs (Some c.in-Some.slot)) _ _ here is)

pub loop-next-smaller : goal.loop-next-smaller
loop-next-smaller c =
    let xs = slots c.args.block.now c.args.list in
    let step = walk-after c.args.block.now c.args.list c.in-Some.slot c.after-next.result c.loop-next.invariant.block
    (stands_of xs _ c.in-Some.slot c.in-Some.is c.loop-next.invariant.stands) c.after-next.ensures.slot in
    let e = ap length (ap (λ o. from_slot xs o) c.in-Some.is ∙ step.0) in
    omega arith

pub loop-next-preserved : goal.loop-next-preserved
loop-next-preserved c =
    let p = c.args.block.now in
    let xs = slots p c.args.list in
    let g : ℕ → Bool = λ s. is_sought_at c.args.sought p s in
    let step = walk-after p c.args.list c.in-Some.slot c.after-next.result c.loop-next.invariant.block
    (stands_of xs _ c.in-Some.slot c.in-Some.is c.loop-next.invariant.stands) c.after-next.ensures.slot in
    let is : g c.in-Some.slot.0 ≡ false = sought_told c.args.sought p c.in-Some.slot.0 c.get.result.now c.is_sought.result false c.get.ensures
    c.is_sought.ensures c.if-is_sought.false in
    record {
      block = c.loop-next.invariant.block;
      stands = step.1;
      found = c.loop-next.invariant.found ∙ ap (λ o. find g (from_slot xs o)) c.in-Some.is ∙ find-past g (from_slot xs (Some c.in-Some.slot)) _ _ step.0 is;
    }

pub returns-clause-found : goal.returns-clause-found
returns-clause-found c =
    let xs = slots c.args.block.now c.args.list in
    sym (c.loop-next.invariant.found ∙ ap (λ o. find (λ s. is_sought_at c.args.sought c.args.block.now s) (from_slot xs o))
    (not_Some c.loop-next.next c.in_default.not-Some))
