-- Where a message is that was accepted, as long as no poll runs it and it isn't given back.
use Rattle.std.specs.Prelude.{Bool, true, false, Option, Some, None, List, [], ◌∷◌}
use Rattle.am_names.specs.declared.Serial.{Serial}
use Rattle.am_names.specs.Names.{same_serial}
use Rattle.am_office_entries.specs.declared.Entry.{Entry}
use Rattle.am_office_entries.specs.declared.Outcome.{Outcome}
use Rattle.am_office_entries.specs.declared.Outcome.TheVariants as Out
use Rattle.am_office_entries.specs.declared.Received.{Received}
use Rattle.am_office_entries.specs.declared.Received.TheVariants as Got
use Rattle.am_lab_reasons.specs.declared.whereabouts.Whereabouts.{Whereabouts}
use Rattle.am_lab_reasons.specs.declared.whereabouts.Whereabouts.TheVariants.{Waiting, Underway, PutBack, Put}

abbrev pub at_if : Bool → Whereabouts → Option Whereabouts
at_if true place = Some place
at_if false place = None

abbrev pub moved_in : Serial → Received → Option Whereabouts
moved_in s (Got.Accepted m answer) = at_if (same_serial s m.serial) Put
moved_in s (Got.Requeued other cause used) = at_if (same_serial s other) PutBack
moved_in s result = None

-- where a message is behind an entry with this outcome, if that moves it: it is sent, put, or put back
abbrev pub moved_by : Serial → Outcome → Option Whereabouts
moved_by s (Out.Sent m peer channel seq attempt number) = at_if (same_serial s m.serial) Underway
moved_by s (Out.Accepted m) = at_if (same_serial s m.serial) Put
moved_by s (Out.Requeued m cause used) = at_if (same_serial s m.serial) PutBack
moved_by s (Out.Received channel seq attempt result) = moved_in s result
moved_by s outcome = None

-- once put, a message stays where it is, though it may be sent again
abbrev pub next_place : Whereabouts → Option Whereabouts → Whereabouts
next_place Put moved = Put
next_place place (Some next) = next
next_place place None = place

unfoldable pub where_from : Serial → Whereabouts → List Entry → Whereabouts
where_from s place [] = place
where_from s place (x ∷ xs) = where_from s (next_place place (moved_by s x.outcome)) xs

-- where an accepted message is behind these entries
abbrev pub where_is : List Entry → Serial → Whereabouts
where_is journal s = where_from s Waiting journal
