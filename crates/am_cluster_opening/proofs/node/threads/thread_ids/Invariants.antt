use Rattle.std.proofs.Common.{◌≡◌, take}
use Rattle.am_cluster_opening.specs.Node.Openings.{thread_ids}
use Rattle.am_cluster_opening.proofs.node.threads.thread_ids.Given as goal

abbrev pub invariant-loop-line : goal.invariant-loop-line
invariant-loop-line l = l.ids.items ≡ thread_ids (take l.line-index l.lines) l.node
