use Rattle.std.proofs.Common.{◌≡◌, ◌++◌, map}
use Rattle.std.specs.List.{flat_map, range_with_len}
use Rattle.am_model.specs.Layout.{node_at}
use Rattle.am_lab_reasons.specs.Due.Choices.{next_packets}
use Rattle.am_lab_reasons.proofs.due.choices.put_packets.Given as goal

abbrev pub invariant-loop-node : goal.invariant-loop-node
invariant-loop-node l = l.out.items ≡ l.fn.out.items ++ flat_map (next_packets l.run.scenario l.run.journal) (map node_at (range_with_len 0 l.node))
