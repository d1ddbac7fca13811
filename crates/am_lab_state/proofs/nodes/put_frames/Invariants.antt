use Rattle.std.proofs.Common.{◌≡◌, ◌++◌}
use Rattle.std.specs.List.{flat_map, range_with_len}
use Rattle.am_lab_state.specs.Nodes.{frame_lines}
use Rattle.am_lab_state.proofs.nodes.put_frames.Given as goal

abbrev pub invariant-loop-frame : goal.invariant-loop-frame
invariant-loop-frame l =
    l.out.items ≡ l.fn.out.items ++ flat_map (frame_lines l.scenario l.cluster.journal l.fn.node) (range_with_len 0 l.frame)
