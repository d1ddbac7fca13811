use Rattle.am_office_report.proofs.Placing.{hear_there, hear_missing}
use Rattle.am_office_report.proofs.sources.hear.Goals as goal

pub returns-then-has_count : goal.returns-then-has_count
returns-then-has_count c =
    let there = rw c.deref.ensures.value at (c.has_count.ensures.there c.if-has_count.true) in
    hear_there c.args.rows.now.items c.args.count c.args.place c.args.news c.index_mut-row.result.now c.with-row.result c.index_mut-row.ensures.value
    c.with-row.ensures c.requires there

pub returns-else-has_count : goal.returns-else-has_count
returns-else-has_count c =
    let missing = rw c.deref.ensures.value at (c.has_count.ensures.missing c.if-has_count.false) in
    hear_missing c.args.rows.now.items c.args.count c.args.place c.args.news c.requires missing
