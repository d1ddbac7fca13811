-- The account of a journal, by the serials of its messages.
use Rattle.std.specs.Prelude.{◌≡◌, Bool, Option, Some, None, List, slice_get, if◌then◌else◌}
use Rattle.std.specs.BTreeMap.{BTreeMap}
use Rattle.std.specs.BTreeMap as maps
use Rattle.std.specs.BTreeSet.{BTreeSet}
use Rattle.std.specs.BTreeSet as sets
use Rattle.am_names.specs.declared.Cause.{Cause}
use Rattle.am_names.specs.declared.Message.{Message}
use Rattle.am_names.specs.declared.Serial.{Serial}
use Rattle.am_names.specs.Names.{same_serial, serial_order}
use Rattle.am_office_entries.specs.declared.Entry.{Entry}
use Rattle.am_office_entries.specs.Fates.{causes_of, is_accepted, is_run, is_unknown}
use Rattle.am_library_views.specs.declared.account.Account.{Account}
use Rattle.am_library_views.specs.Views.{reply_to}

-- whether a set has a serial
abbrev pub has : BTreeSet Serial → Serial → Bool
has set s = sets.contains serial_order set s

-- the cause that is kept for a serial
abbrev pub cause_in : BTreeMap Serial Cause → Serial → Option Cause
cause_in causes s = maps.get serial_order causes s

-- the reply that is kept for a request
abbrev pub reply_in : BTreeMap Serial Message → Serial → Option Message
reply_in replies s = maps.get serial_order replies s

abbrev pub answer_by : Message → Option Serial → Option (Serial × Message)
answer_by m None = None
answer_by m (Some request) = Some (request, m)

-- the request that a message answers, with the message
abbrev pub answer_of : Option Message → Option (Serial × Message)
answer_of None = None
answer_of (Some m) = answer_by m m.about

-- the message of an answer, if it is to this request
abbrev pub reply_for : Serial → Option (Serial × Message) → Option Message
reply_for s None = None
reply_for s (Some answer) = if same_serial s answer.0 then Some answer.1 else None

-- the account says of each serial what the entries say
pub record IsAccountOf (journal : List Entry) (account : Account) : Type 0 where
  pub accepted' : (s : Serial) → has account.accepted s ≡ is_accepted journal s
  pub returned' : (s : Serial) → cause_in account.returned s ≡ slice_get (causes_of journal s) 0
  pub unknown' : (s : Serial) → has account.unknown s ≡ is_unknown journal s
  pub ran' : (s : Serial) → has account.ran s ≡ is_run journal s
  pub replies' : (s : Serial) → reply_in account.replies s ≡ reply_to journal s
