use Rattle.std.proofs.Common.{◌+◌, sym, subst}
use Rattle.std.specs.Prelude.{List}
use Rattle.std.specs.Global.{Vec}
use Rattle.am_wire.specs.declared.sending.LinkOut.{LinkOut}
use Rattle.am_wire.specs.AllLinks.Links.{AreWoven}
use Rattle.am_wire.proofs.Weaving.{woven_more}
use Rattle.am_wire.proofs.all_links.open_links.Goals as goal

pub loop-from-preserved : goal.loop-from-preserved
loop-from-preserved c =
    subst (λ (outs : List (Vec LinkOut)). AreWoven c.args.plan.now c.args.nodes (c.loop-from.from + 1) outs c.spread.new.columns.items)
    (sym c.in_ok-push.ensures.items)
    (woven_more c.args.plan.now c.args.nodes c.loop-from.from c.loop-from.outs.items c.loop-from.ins.items c.spread.new.columns.items c.in_ok-row.row.outs
    c.in_ok-row.row.ins.items c.loop-from.invariant c.in_ok-row.ensures c.in_ok-spread.ensures)
