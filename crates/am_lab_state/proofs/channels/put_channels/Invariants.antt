use Rattle.std.proofs.Common.{◌≡◌, ◌++◌, map}
use Rattle.std.specs.List.{flat_map, range_with_len}
use Rattle.am_model.specs.Layout.{node_at}
use Rattle.am_lab_state.specs.Channels.{node_lines}
use Rattle.am_lab_state.proofs.channels.put_channels.Given as goal

abbrev pub invariant-loop-node : goal.invariant-loop-node
invariant-loop-node l = l.out.items ≡ l.fn.out.items ++ flat_map (node_lines l.scenario l.cluster.journal) (map node_at (range_with_len 0 l.node))
