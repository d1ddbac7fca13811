-- Which entries touch a message: what came of the entry names the message, or the entry gives it up.
use Rattle.std.specs.Prelude.{Bool, false, ◌||◌, Option, Some, None}
use Rattle.am_names.specs.declared.Message.{Message}
use Rattle.am_names.specs.declared.Serial.{Serial}
use Rattle.am_names.specs.Names.{same_serial}
use Rattle.am_office_entries.specs.declared.Entry.{Entry}
use Rattle.am_office_entries.specs.declared.Outcome.{Outcome}
use Rattle.am_office_entries.specs.declared.Outcome.TheVariants as Out
use Rattle.am_office_entries.specs.Entries.{given_up_of, is_serial, received_about}

abbrev pub is_reply : Serial → Option Message → Bool
is_reply s None = false
is_reply s (Some r) = same_serial s r.serial

-- what came of an event names the message: it was accepted, as a request or as the reply of a run; it ran; its notice was told; it was
-- put, put back or returned; it was sent; it was settled
abbrev pub names : Serial → Outcome → Bool
names s Out.Silent = false
names s Out.Done = false
names s (Out.Requested m) = same_serial s m.serial
names s (Out.Refused refusal) = false
names s (Out.Zero t why) = same_serial s t
names s (Out.Ran handler m sends) = same_serial s m.serial || is_reply s sends
names s Out.Blocked = false
names s Out.Empty = false
names s Out.Ready = false
names s Out.Quiet = false
names s Out.Failed = false
names s (Out.Accepted m) = same_serial s m.serial
names s (Out.Requeued m cause used) = same_serial s m.serial
names s (Out.Returned m cause) = same_serial s m.serial
names s (Out.Sent m peer channel seq attempt number) = same_serial s m.serial
names s (Out.Delivered t) = same_serial s t
names s (Out.Unknown t) = same_serial s t
names s (Out.Received channel seq attempt result) = is_serial s (received_about result)

abbrev pub touches : Serial → Entry → Bool
touches s x = names s x.outcome || is_serial s (given_up_of x)
