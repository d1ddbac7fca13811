use Rattle.std.proofs.Common.{◌≡◌, map, take}
use Rattle.am_office_report.specs.Tables.{entries_from, fate_of_entry}
use Rattle.am_office_report.proofs.messages.MessageTable.told.Given as goal

abbrev pub invariant-loop-index : goal.invariant-loop-index
invariant-loop-index l = l.told.items ≡ map fate_of_entry (entries_from 0 (take l.index l.self))
