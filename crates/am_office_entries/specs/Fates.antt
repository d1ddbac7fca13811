-- What became of each message.
use Rattle.std.specs.Prelude.{Bool, true, false, Option, Some, None, List, [], ◌∷◌, filter_map, if◌then◌else◌}
use Rattle.std.specs.List.{list_any}
use Rattle.am_names.specs.declared.Serial.{Serial}
use Rattle.am_names.specs.declared.Cause.{Cause}
use Rattle.am_office_entries.specs.declared.Event.{Event}
use Rattle.am_office_entries.specs.declared.Event.TheVariants as Events
use Rattle.am_office_entries.specs.declared.Received.{Received}
use Rattle.am_office_entries.specs.declared.Received.TheVariants as Got
use Rattle.am_office_entries.specs.declared.Outcome.{Outcome}
use Rattle.am_office_entries.specs.declared.Outcome.TheVariants as Out
use Rattle.am_office_entries.specs.declared.Entry.{Entry}
use Rattle.am_office_entries.specs.declared.endings.Fate.{Fate}
use Rattle.am_office_entries.specs.declared.endings.Fate.TheVariants as Fates
use Rattle.am_names.specs.Names.{same_serial, has_serial}
use Rattle.am_office_entries.specs.Entries.{accepted_of, run_of, unknown_of, passes, is_serial}

abbrev pub cause_if : Bool → Cause → Option Cause
cause_if true cause = Some cause
cause_if false cause = None

abbrev pub cause_by : Serial → Received → Option Cause
cause_by s (Got.Returned serial cause) = cause_if (same_serial s serial) cause
cause_by s result = None

-- the cause of a return, if it is of this serial
abbrev pub cause_for : Serial → Option (Serial × Cause) → Option Cause
cause_for s None = None
cause_for s (Some returned) = cause_if (same_serial s returned.0) returned.1

-- the cause for which an entry returns the serial
abbrev pub cause_of : Serial → Event → Outcome → Option Cause
cause_of s (Events.Carry end) (Out.Returned m cause) = cause_if (same_serial s m.serial) cause
cause_of s (Events.Receive node peer number) (Out.Received channel seq attempt result) = cause_by s result
cause_of s event outcome = None

abbrev pub fate_by : List Cause → Bool → Bool → Fate
fate_by (cause ∷ causes) unknown ran = Fates.Returned cause
fate_by [] true true = Fates.UnknownButRan
fate_by [] true false = Fates.Unknown
fate_by [] false true = Fates.Ran
fate_by [] false false = Fates.Pending

-- the causes for which a journal's entries return the serial
abbrev pub causes_of : List Entry → Serial → List Cause
causes_of journal s = filter_map (λ (x : Entry). cause_of s x.event x.outcome) journal

-- whether an entry leaves the serial unknown
abbrev pub is_unknown : List Entry → Serial → Bool
is_unknown journal s = list_any (λ (x : Entry). is_serial s (unknown_of x)) journal

-- whether a poll ran the serial
abbrev pub is_run : List Entry → Serial → Bool
is_run journal s = list_any (λ (x : Entry). passes (has_serial s) (run_of x)) journal

-- whether an entry accepts the serial
abbrev pub is_accepted : List Entry → Serial → Bool
is_accepted journal s = list_any (λ (x : Entry). passes (has_serial s) (accepted_of x)) journal

-- what became of an accepted serial
abbrev pub fate_of_accepted : List Entry → Serial → Fate
fate_of_accepted journal s = fate_by (causes_of journal s) (is_unknown journal s) (is_run journal s)

-- what became of a serial, if it was accepted
abbrev pub fate : List Entry → Serial → Option Fate
fate journal s = if is_accepted journal s then Some (fate_of_accepted journal s) else None
