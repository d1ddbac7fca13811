use Rattle.am_wire.specs.AllLinks.Links.{AreWoven}
use Rattle.am_wire.proofs.all_links.open_links.Given as goal

abbrev pub invariant-loop-from : goal.invariant-loop-from
invariant-loop-from l = AreWoven l.plan l.nodes l.from l.outs.items l.ins.items
