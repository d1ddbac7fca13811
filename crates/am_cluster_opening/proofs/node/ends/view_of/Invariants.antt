use Rattle.std.proofs.Common.{◌≡◌, take}
use Rattle.am_cluster_opening.specs.Node.Openings.{lines_of}
use Rattle.am_cluster_opening.proofs.node.ends.view_of.Given as goal

abbrev pub invariant-loop-end : goal.invariant-loop-end
invariant-loop-end l = l.lines.items ≡ lines_of (take l.end-index l.ends)
