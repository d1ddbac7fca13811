use Rattle.std.proofs.Common.{◌≡◌, ◌++◌, map}
use Rattle.std.specs.List.{flat_map, range_with_len}
use Rattle.am_model.specs.Layout.{node_at}
use Rattle.am_lab_reasons.specs.Due.Choices.{next_packet}
use Rattle.am_lab_reasons.proofs.due.choices.put_packets_at.Given as goal

abbrev pub invariant-loop-peer : goal.invariant-loop-peer
invariant-loop-peer l = l.out.items ≡ l.fn.out.items ++ flat_map (next_packet l.run.scenario l.run.journal l.node) (map node_at (range_with_len 0 l.peer))
