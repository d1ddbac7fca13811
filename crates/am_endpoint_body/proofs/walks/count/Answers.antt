use Rattle.std.proofs.Common.{◌≡◌, cond, ap, sym, ◌∙◌, arith, length, refl, Some, ℕ, Bool}
use Rattle.std.specs.List.{count_by}
use Rattle.std.proofs.lemmas.List.Sums.{count_by-le-length}
use Rattle.am_block.proofs.Fresh.{below-get}
use Rattle.am_block.proofs.Callers.{walk-start, walk-after, walk-here}
use Rattle.am_block.specs.Pools.{place, slots}
use Rattle.am_block.specs.Walk.{from_slot}
use Rattle.am_endpoint_body.specs.Walks.{is_sought_at}
use Rattle.am_endpoint_body.proofs.Walking.{count-here, count_small, not_Some, sought_told, stands_of}
use Rattle.am_endpoint_body.proofs.walks.count.Goals as goal

pub loop-next-init : goal.loop-next-init
loop-next-init c =
    let w = walk-start (slots c.args.block.now c.args.list) c.front-next.result c.front-next.ensures.slot in
    record {
      block = c.front-next.ensures.block;
      stands = w.1;
      counted = omega (arith, ap (λ ys. count_by (λ s. is_sought_at c.args.sought c.args.block.now s) ys) w.0);
    }

pub get-requires : goal.get-requires
get-requires c =
    let xs = slots c.args.block.now c.args.list in
    below-get c.args.block.now c.args.list (place c.in-Some.slot.0 xs) c.in-Some.slot.0 c.loop-next.invariant.block
    (stands_of xs _ c.in-Some.slot c.in-Some.is c.loop-next.invariant.stands)

pub after-next-requires : goal.after-next-requires
after-next-requires c =
    let xs = slots c.args.block.now c.args.list in
    below-get c.args.block.now c.args.list (place c.in-Some.slot.0 xs) c.in-Some.slot.0 c.loop-next.invariant.block
    (stands_of xs _ c.in-Some.slot c.in-Some.is c.loop-next.invariant.stands)

pub overflow_add-total : goal.overflow_add-total
overflow_add-total c =
    let p = c.args.block.now in
    let xs = slots p c.args.list in
    let g : ℕ → Bool = λ s. is_sought_at c.args.sought p s in
    let here = walk-here xs c.in-Some.slot (stands_of xs _ c.in-Some.slot c.in-Some.is c.loop-next.invariant.stands) in
    let step = ap (λ o. count_by g (from_slot xs o)) c.in-Some.is ∙ count-here g (from_slot xs (Some c.in-Some.slot)) _ _ here in
    let one : cond (g c.in-Some.slot.0) 1 0 ≡ c.as_count-total.result =
    ap {B = ℕ} (λ b. cond b 1 0) (sought_told c.args.sought p c.in-Some.slot.0 c.get.result.now c.is_sought.result c.is_sought.result c.get.ensures
    c.is_sought.ensures refl) ∙ sym c.as_count-total.ensures.value in
    omega (arith, c.loop-next.invariant.counted, step, one, count_small p c.args.list g c.loop-next.invariant.block)

pub loop-next-smaller : goal.loop-next-smaller
loop-next-smaller c =
    let xs = slots c.args.block.now c.args.list in
    let step = walk-after c.args.block.now c.args.list c.in-Some.slot c.after-next.result c.loop-next.invariant.block
    (stands_of xs _ c.in-Some.slot c.in-Some.is c.loop-next.invariant.stands) c.after-next.ensures.slot in
    let e = ap length (ap (λ o. from_slot xs o) c.in-Some.is ∙ step.0) in
    omega arith

pub loop-next-preserved : goal.loop-next-preserved
loop-next-preserved c =
    let p = c.args.block.now in
    let xs = slots p c.args.list in
    let g : ℕ → Bool = λ s. is_sought_at c.args.sought p s in
    let next = walk-after p c.args.list c.in-Some.slot c.after-next.result c.loop-next.invariant.block
    (stands_of xs _ c.in-Some.slot c.in-Some.is c.loop-next.invariant.stands) c.after-next.ensures.slot in
    let step = ap (λ o. count_by g (from_slot xs o)) c.in-Some.is ∙ count-here g (from_slot xs (Some c.in-Some.slot)) _ _ next.0 in
    let one : cond (g c.in-Some.slot.0) 1 0 ≡ c.as_count-total.result =
    ap {B = ℕ} (λ b. cond b 1 0) (sought_told c.args.sought p c.in-Some.slot.0 c.get.result.now c.is_sought.result c.is_sought.result c.get.ensures
    c.is_sought.ensures refl) ∙ sym c.as_count-total.ensures.value in
    record { block = c.loop-next.invariant.block; stands = next.1; counted = omega (arith, c.loop-next.invariant.counted, step, one) }

pub returns-clause-value : goal.returns-clause-value
returns-clause-value c =
    let xs = slots c.args.block.now c.args.list in
    let g : ℕ → Bool = λ s. is_sought_at c.args.sought c.args.block.now s in
    let none = ap (λ o. count_by g (from_slot xs o)) (not_Some c.loop-next.next c.in_default.not-Some) in
    omega (arith, c.loop-next.invariant.counted, none)

pub returns-clause-few : goal.returns-clause-few
returns-clause-few c =
    omega (arith, c.loop-next.invariant.counted, count_by-le-length (λ s. is_sought_at c.args.sought c.args.block.now s) (slots c.args.block.now c.args.list))
