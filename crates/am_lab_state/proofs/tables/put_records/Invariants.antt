use Rattle.std.proofs.Common.{◌≡◌, ◌++◌, take}
use Rattle.std.specs.List.{flat_map}
use Rattle.am_lab_state.specs.Ends.{record_line}
use Rattle.am_lab_state.proofs.tables.put_records.Given as goal

abbrev pub invariant-loop-held : goal.invariant-loop-held
invariant-loop-held l = l.out.items ≡ l.fn.out.items ++ flat_map (record_line l.end) (take l.held-index l.records)
