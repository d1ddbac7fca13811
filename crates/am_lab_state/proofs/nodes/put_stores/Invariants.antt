use Rattle.std.proofs.Common.{◌≡◌, ◌++◌, map}
use Rattle.std.specs.List.{flat_map, range_with_len}
use Rattle.am_model.specs.Layout.{node_at}
use Rattle.am_lab_state.specs.Nodes.{store_lines}
use Rattle.am_lab_state.proofs.nodes.put_stores.Given as goal

abbrev pub invariant-loop-node : goal.invariant-loop-node
invariant-loop-node l = l.out.items ≡ l.fn.out.items ++ flat_map (store_lines l.scenario l.cluster.journal) (map node_at (range_with_len 0 l.node))
