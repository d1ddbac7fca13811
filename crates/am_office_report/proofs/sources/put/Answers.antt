use Rattle.std.proofs.Common.{◌∙◌, arith}
use Rattle.am_office_report.proofs.Placing.{put_last, put_there, put_missing}
use Rattle.am_office_report.proofs.sources.put.Goals as goal

pub returns-then-place-len : goal.returns-then-place-len
returns-then-place-len c = c.in_ok-push.ensures.items ∙ put_last c.args.rows.now.items c.args.count c.args.place c.args.state c.requires (omega (arith, c.if-place-len.true, c.len.ensures))

pub returns-then-has_count : goal.returns-then-has_count
returns-then-has_count c =
    let there = rw c.deref.ensures.value at (c.has_count.ensures.there c.if-has_count.true) in
    put_there c.args.rows.now.items c.args.count c.args.place c.args.state c.index_mut.result.now c.index_mut.ensures.value c.requires there

pub returns : goal.returns
returns c =
    let missing = rw c.deref.ensures.value at (c.has_count.ensures.missing c.if-has_count.false) in
    c.in_ok-insert.ensures.items ∙ put_missing c.args.rows.now.items c.args.count c.args.place c.args.state c.requires missing
