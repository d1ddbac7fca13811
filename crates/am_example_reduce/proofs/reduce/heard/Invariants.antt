use Rattle.std.proofs.Common.{◌≡◌, map}
use Rattle.std.specs.List.{range_with_len}
use Rattle.am_example_reduce.specs.Sums.{heard_by}
use Rattle.am_example_reduce.proofs.reduce.heard.Given as goal

abbrev pub invariant-loop-node : goal.invariant-loop-node
invariant-loop-node l = l.notes.items ≡ map (heard_by l.finished.journal) (range_with_len 0 l.node)
