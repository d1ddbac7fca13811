use Rattle.std.proofs.Common.{◌≡◌, ◌++◌}
use Rattle.std.specs.List.{flat_map, range_with_len}
use Rattle.am_lab_state.specs.Channels.{channel_lines}
use Rattle.am_lab_state.proofs.channels.put_peer.Given as goal

abbrev pub invariant-loop-number : goal.invariant-loop-number
invariant-loop-number l =
    l.out.items ≡ l.fn.out.items ++ flat_map (channel_lines l.cluster.journal l.fn.node l.peer) (range_with_len 0 l.number)
