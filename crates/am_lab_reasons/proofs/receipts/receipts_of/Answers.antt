use Rattle.std.proofs.Common.{◌≡◌, ◌+◌, ◌-◌, ◌<◌, length, arith}
use Rattle.am_lab_reasons.proofs.Receiving.{first_noted, later_noted}
use Rattle.am_lab_reasons.proofs.receipts.receipts_of.Goals as goal

pub loop-place-preserved : goal.loop-place-preserved
loop-place-preserved c =
    let xs = c.args.entries.now in
    let n = c.loop-place.place in
    let some = c.loop-place-test.true in
    let within = c.loop-place.invariant.within in
    let next : n ≡ n - 1 + 1 = omega (arith, some) in
    let below : n - 1 < length xs = omega (arith, some, within) in
    record {
      within = omega (arith, within);
      first = first_noted c.loop-place.first c.note_receipt.new.first xs n (n - 1) _ next below c.loop-place.invariant.first c.in_ok-later-2.ensures.noted;
      later = later_noted c.loop-place.first c.loop-place.later.items xs n (n - 1) _ c.in_ok-later-2.field-0 next below c.loop-place.invariant.first
          c.loop-place.invariant.later c.in_ok-later-2.ensures.later;
    }
