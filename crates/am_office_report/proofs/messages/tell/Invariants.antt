use Rattle.std.proofs.Common.{◌≡◌, ◌++◌, map, take}
use Rattle.am_office_report.specs.Tables.{source_entry, fate_of_entry}
use Rattle.am_office_report.proofs.messages.tell.Given as goal

abbrev pub invariant-loop-count : goal.invariant-loop-count
invariant-loop-count l = l.told.items ≡ l.fn.told.items ++ map fate_of_entry (map (source_entry l.source.0) (take l.count-index l.rows))
