use Rattle.std.proofs.Common.{◌+◌, sym}
use Rattle.am_wire.specs.AllLinks.Links.{IsRow}
use Rattle.am_wire.proofs.Weaving.{row_more}
use Rattle.am_wire.proofs.all_links.making.open_row.Goals as goal

pub loop-to-preserved : goal.loop-to-preserved
loop-to-preserved c =
    coe 0 1 (i. IsRow c.args.plan.now c.args.from (c.loop-to.to + 1) (sym c.in_ok-push.ensures.items i) (sym c.in_ok-push-2.ensures.items i))
    (row_more c.args.plan.now c.args.from c.loop-to.to c.loop-to.outs.items c.loop-to.ins.items c.in_ok-out.out c.in_ok-out.inn c.loop-to.invariant
    c.in_ok-out.ensures)
