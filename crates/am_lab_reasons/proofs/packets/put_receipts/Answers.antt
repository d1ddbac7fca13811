use Rattle.std.proofs.Common.{List, ◌++◌, ℕ, ◌+◌, sym, ap, ◌∙◌, arith}
use Rattle.std.proofs.lemmas.Option.{slice_get_within}
use Rattle.am_lemmas.specs.Numbered.{numbered}
use Rattle.am_lab_reasons.specs.Packets.{receipt}
use Rattle.am_lab_reasons.proofs.Receiving.{all_told, later_is, next_is, next_smaller, receipt_of, told_next}
use Rattle.am_lab_reasons.proofs.packets.put_receipts.Goals as goal

pub loop-next-init : goal.loop-next-init
loop-next-init c =
    let w = c.args.way in
    let xs = c.args.journal.now in
    record {
      next = next_is w xs 0 _ (sym c.requires.first);
      out = ap (λ (l : List ℕ). c.args.out.now.items ++ l) (all_told w xs c.args.first c.requires.first);
    }

pub overflow_add-place : goal.overflow_add-place
overflow_add-place c =
    let xs = c.args.journal.now in
    let p = c.in-Some.place in
    let r = receipt_of c.args.way xs c.loop-next.next p c.loop-next.invariant.next c.in-Some.is in
    let within = slice_get_within xs p r.entry r.stands in
    let few = c.requires.few in
    omega (arith, within, few)

pub later_receipt-next-requires : goal.later_receipt-next-requires
later_receipt-next-requires c =
    let xs = c.args.journal.now in
    let p = c.in-Some.place in
    let r = receipt_of c.args.way xs c.loop-next.next p c.loop-next.invariant.next c.in-Some.is in
    slice_get_within xs p r.entry r.stands

pub loop-next-smaller : goal.loop-next-smaller
loop-next-smaller c =
    let xs = c.args.journal.now in
    let p = c.in-Some.place in
    let r = receipt_of c.args.way xs c.loop-next.next p c.loop-next.invariant.next c.in-Some.is in
    next_smaller c.args.way xs p c.loop-next.next c.later_receipt-next.result r c.in-Some.is c.later_receipt-next.ensures

pub loop-next-preserved : goal.loop-next-preserved
loop-next-preserved c =
    let w = c.args.way in
    let xs = c.args.journal.now in
    let p = c.in-Some.place in
    let r = receipt_of w xs c.loop-next.next p c.loop-next.invariant.next c.in-Some.is in
    record {
      next = next_is w xs (p + 1) c.later_receipt-next.result (c.later_receipt-next.ensures ∙ later_is w xs p r);
      out = told_next w xs p c.loop-next.next c.later_receipt-next.result c.loop-next.out.items c.put_spaced.new.out.items
          (c.args.out.now.items ++ numbered (receipt w.from w.to w.number) 3 xs) r c.in-Some.is c.loop-next.invariant.out c.in_ok-put_spaced.ensures.ok
          c.later_receipt-next.ensures;
    }
