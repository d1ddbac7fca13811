use Rattle.std.proofs.Common.{◌≡◌, ◌++◌, map}
use Rattle.std.specs.List.{flat_map, range_with_len}
use Rattle.am_model.specs.Layout.{node_at}
use Rattle.am_lab_state.specs.Channels.{peer_lines}
use Rattle.am_lab_state.proofs.channels.put_node.Given as goal

abbrev pub invariant-loop-peer : goal.invariant-loop-peer
invariant-loop-peer l = l.out.items ≡ l.fn.out.items ++ flat_map (peer_lines l.scenario l.cluster.journal l.node) (map node_at (range_with_len 0 l.peer))
