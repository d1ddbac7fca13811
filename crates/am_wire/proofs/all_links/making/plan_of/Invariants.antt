use Rattle.std.proofs.Common.{◌≡◌, take}
use Rattle.am_wire.specs.AllLinks.Links.{plan_of}
use Rattle.am_wire.proofs.all_links.making.plan_of.Given as goal

abbrev pub invariant-loop-line : goal.invariant-loop-line
invariant-loop-line l = l.lines.items ≡ plan_of (take l.line-index l.plan) l.from l.to
