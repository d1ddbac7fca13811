use Rattle.std.proofs.Common.{◌≡◌, ◌++◌}
use Rattle.std.specs.List.{flat_map, range_with_len}
use Rattle.am_lab_state.specs.Ends.{mapping_at}
use Rattle.am_lab_state.proofs.tables.put_indexes.Given as goal

abbrev pub invariant-loop-index : goal.invariant-loop-index
invariant-loop-index l = l.out.items ≡ l.fn.out.items ++ flat_map (mapping_at l.end l.pool l.body.body) (range_with_len 0 l.index)
