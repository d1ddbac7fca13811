use Rattle.std.specs.Global.{Vec}
use Rattle.std.proofs.Common.{◌++◌, List, [], ◌∷◌, ap, ◌∙◌, sym, subst}
use Rattle.std.proofs.lemmas.List.{with_items_is}
use Rattle.am_wire.specs.declared.receiving.LinkIn.{LinkIn}
use Rattle.am_wire.specs.declared.sending.LinkOut.{LinkOut}
use Rattle.am_cluster_running.specs.Closing.{IsLinkedRow, IsRowClosed}
use Rattle.am_cluster_running.proofs.Rows.{AreClosedSoFar, all_done, moved, next_row, none_closed, rows_end, rows_more}
use Rattle.am_cluster_running.proofs.closing.close_links.Goals as goal

pub loop-row-init : goal.loop-row-init
loop-row-init c = record {
  so_far = none_closed c.args.ins.items c.in_ok-records.records.items c.in_ok-records.ensures.items;
  left = c.into_iter-row-iterator.ensures.into_iter_gives.0;
}

pub close_row-requires : goal.close_row-requires
close_row-requires c =
    let inv = c.loop-row.invariant in
    let all = ap (λ (xs : List (Vec LinkOut)). c.loop-row.yielded ++ xs) (sym c.in-Some.ensures.steps.0) ∙ inv.left in
    let row = next_row c.loop-row.yielded c.next.new.self.rest.items c.args.outs.items c.args.ins.items c.loop-row.records.items c.loop-row.ins.items
    c.in-Some.row c.requires.linked inv.so_far all in
    record { linked = subst (λ (xs : List (Vec LinkIn)). IsLinkedRow c.in-Some.row.items xs) (sym c.deref_mut.ensures.value) row }

pub loop-row-preserved : goal.loop-row-preserved
loop-row-preserved c =
    let inv = c.loop-row.invariant in
    let all = ap (λ (xs : List (Vec LinkOut)). c.loop-row.yielded ++ xs) (sym c.in-Some.ensures.steps.0) ∙ inv.left in
    let row = subst (λ (xs : List (Vec LinkIn)). IsRowClosed c.in-Some.row.items xs c.in_ok-close_row.field-0.items c.close_row.new.ins)
    c.deref_mut.ensures.value c.in_ok-close_row.ensures.closed in
    let len = c.loop-row.ins.ok.0 in
    let whole = with_items_is c.loop-row.ins c.close_row.new.ins (row.left ∙ sym len) in
    let more = rows_more c.loop-row.yielded c.next.new.self.rest.items c.args.outs.items c.args.ins.items c.loop-row.records.items c.push.new.self.items
    c.loop-row.ins.items c.close_row.new.ins c.in-Some.row c.in_ok-close_row.field-0 c.requires.linked inv.so_far all row c.in_ok-push.ensures.items in
    record {
      so_far = subst (λ (xs : List (Vec LinkIn)). AreClosedSoFar (c.loop-row.yielded ++ c.in-Some.row ∷ []) c.args.ins.items c.push.new.self.items xs)
          (sym whole) more;
      left = moved c.loop-row.yielded c.next.new.self.rest.items c.args.outs.items c.in-Some.row all;
    }

pub returns : goal.returns
returns c =
    let inv = c.loop-row.invariant in
    let none = c.in-None.ensures.steps.0 in
    let len = c.loop-row.row-iterator.rest.ok.0 in
    let done = all_done c.loop-row.yielded c.loop-row.row-iterator.rest.items c.args.outs.items inv.left (sym len ∙ none) in
    record {
      closed = rows_end c.args.outs.items c.args.ins.items c.loop-row.records.items c.loop-row.ins.items
          (subst (λ (xs : List (Vec LinkOut)). AreClosedSoFar xs c.args.ins.items c.loop-row.records.items c.loop-row.ins.items) done inv.so_far);
    }
