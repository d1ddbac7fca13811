use Rattle.am_wire.specs.AllLinks.Links.{IsRow}
use Rattle.am_wire.proofs.all_links.making.open_row.Given as goal

abbrev pub invariant-loop-to : goal.invariant-loop-to
invariant-loop-to l = IsRow l.plan l.from l.to l.outs.items l.ins.items
