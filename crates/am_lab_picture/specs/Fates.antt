-- What a journal says of its messages' fates, by their serials.
use Rattle.std.specs.Prelude.{◌≡◌, Bool, Option, List, slice_get}
use Rattle.std.specs.BTreeMap.{BTreeMap}
use Rattle.std.specs.BTreeMap as maps
use Rattle.std.specs.BTreeSet.{BTreeSet}
use Rattle.std.specs.BTreeSet as sets
use Rattle.am_names.specs.declared.Cause.{Cause}
use Rattle.am_names.specs.declared.Serial.{Serial}
use Rattle.am_names.specs.Names.{serial_order}
use Rattle.am_office_entries.specs.declared.Entry.{Entry}
use Rattle.am_office_entries.specs.Fates.{causes_of, is_accepted, is_run, is_unknown}
use Rattle.am_lab_picture.specs.declared.fates.FateTable.{FateTable}

-- whether a set has a serial
abbrev pub has : BTreeSet Serial → Serial → Bool
has set s = sets.contains serial_order set s

-- the cause that is kept for a serial
abbrev pub cause_in : BTreeMap Serial Cause → Serial → Option Cause
cause_in causes s = maps.get serial_order causes s

-- the table says of each serial what the entries say
pub record AreFates (table : FateTable) (journal : List Entry) : Type 0 where
  pub accepted : (s : Serial) → has table.accepted s ≡ is_accepted journal s
  pub returned : (s : Serial) → cause_in table.returned s ≡ slice_get (causes_of journal s) 0
  pub unknown : (s : Serial) → has table.unknown s ≡ is_unknown journal s
  pub ran : (s : Serial) → has table.ran s ≡ is_run journal s
