use Rattle.std.proofs.Common.{◌≡◌, ◌++◌, take}
use Rattle.am_lab_state.specs.Messages.{records_named}
use Rattle.am_lab_state.proofs.named.name_records.Given as goal

abbrev pub invariant-loop-record : goal.invariant-loop-record
invariant-loop-record l = l.named.items ≡ l.fn.named.items ++ records_named (take l.record-index l.records)
