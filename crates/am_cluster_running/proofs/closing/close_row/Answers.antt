use Rattle.std.proofs.Common.{◌<◌, ◌++◌, length, vec_len, slice_index_or, remove, ℕ, ◌+◌, List, ap, ◌∙◌, sym, subst, arith}
use Rattle.std.specs.Global.{Vec}
use Rattle.am_wire.specs.Links.{IsLink}
use Rattle.am_wire.specs.declared.receiving.LinkIn.{LinkIn}
use Rattle.am_wire.specs.declared.sending.LinkOut.{LinkOut}
use Rattle.am_cluster_running.proofs.Rows.{IsRowSoFar, all_done, first_left, longer, moved, next_within, row_end, row_more}
use Rattle.am_cluster_running.proofs.closing.close_row.Goals as goal

pub bounds-ins-to : goal.bounds-ins-to
bounds-ins-to c =
    let inv = c.loop-out.invariant in
    let all = ap (λ (xs : List LinkOut). c.loop-out.yielded ++ xs) (sym c.in-Some.ensures.steps.0) ∙ inv.left in
    next_within c.loop-out.yielded c.next.new.self.rest.items c.args.outs.items c.args.ins.now c.loop-out.records.items c.loop-out.ins c.in-Some.out
    c.len-to.result c.requires.linked inv.so_far all (c.len-to.ensures ∙ inv.place)

pub remove-inn-requires : goal.remove-inn-requires
remove-inn-requires c =
    let inv = c.loop-out.invariant in
    let all = ap (λ (xs : List LinkOut). c.loop-out.yielded ++ xs) (sym c.in-Some.ensures.steps.0) ∙ inv.left in
    let f = first_left c.loop-out.yielded c.next.new.self.rest.items c.args.outs.items c.args.ins.now c.loop-out.records.items c.loop-out.ins c.in-Some.out
    c.index-ins-to.result c.len-to.result c.requires.linked inv.so_far all (c.len-to.ensures ∙ inv.place) c.index-ins-to.is in
    let cut = ap (λ (xs : List LinkIn). length xs) f.items in
    let len = c.index-ins-to.result.ok.0 in
    subst (λ (v : Vec LinkIn). 0 < vec_len v) c.index-ins-to.is (omega (arith, cut, len))

pub close-requires : goal.close-requires
close-requires c =
    let inv = c.loop-out.invariant in
    let all = ap (λ (xs : List LinkOut). c.loop-out.yielded ++ xs) (sym c.in-Some.ensures.steps.0) ∙ inv.left in
    let f = first_left c.loop-out.yielded c.next.new.self.rest.items c.args.outs.items c.args.ins.now c.loop-out.records.items c.loop-out.ins c.in-Some.out
    c.index-ins-to.result c.len-to.result c.requires.linked inv.so_far all (c.len-to.ensures ∙ inv.place) c.index-ins-to.is in
    subst (λ (i : LinkIn). IsLink c.in-Some.out i) (sym (c.remove-inn.ensures.value
    ∙ ap (λ (v : Vec LinkIn). slice_index_or v.items 0 c.remove-inn.result) (sym c.index-ins-to.is)
    ∙ ap (λ (xs : List LinkIn). slice_index_or xs 0 c.remove-inn.result) f.items)) f.link

pub loop-out-preserved : goal.loop-out-preserved
loop-out-preserved c =
    let inv = c.loop-out.invariant in
    let all = ap (λ (xs : List LinkOut). c.loop-out.yielded ++ xs) (sym c.in-Some.ensures.steps.0) ∙ inv.left in
    let more =
    row_more c.loop-out.yielded c.next.new.self.rest.items c.args.outs.items c.args.ins.now c.loop-out.records.items c.push.new.self.items c.loop-out.ins
    c.in-Some.out c.index-ins-to.result c.remove-inn.new.self c.remove-inn.result c.in_ok-close.field-0 c.len-to.result c.requires.linked inv.so_far all
    (c.len-to.ensures ∙ inv.place) c.index-ins-to.is (c.remove-inn.ensures.value
    ∙ ap (λ (v : Vec LinkIn). slice_index_or v.items 0 c.remove-inn.result) (sym c.index-ins-to.is)) (c.remove-inn.ensures.items
    ∙ ap (λ (v : Vec LinkIn). remove v.items 0) (sym c.index-ins-to.is))
    (record { emitted' = c.in_ok-close.ensures.emitted; received' = c.in_ok-close.ensures.received; shaped = c.in_ok-close.ensures.shape })
    c.in_ok-push.ensures.items in
    record {
      so_far = more;
      left = moved c.loop-out.yielded c.next.new.self.rest.items c.args.outs.items c.in-Some.out all;
      place = c.in_ok-push.ensures.len ∙ ap (λ (n : ℕ). n + 1) inv.place ∙ sym (longer c.loop-out.yielded c.in-Some.out);
    }

pub returns : goal.returns
returns c =
    let inv = c.loop-out.invariant in
    let none = c.in-None.ensures.steps.0 in
    let len = c.loop-out.out-iterator.rest.ok.0 in
    let done = all_done c.loop-out.yielded c.loop-out.out-iterator.rest.items c.args.outs.items inv.left (sym len ∙ none) in
    record {
      closed = row_end c.args.outs.items c.args.ins.now c.loop-out.records.items c.loop-out.ins
          (subst (λ (xs : List LinkOut). IsRowSoFar xs c.args.ins.now c.loop-out.records.items c.loop-out.ins) done inv.so_far);
    }
