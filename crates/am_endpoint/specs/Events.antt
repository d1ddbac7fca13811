-- Which entries change an endpoint that is in memory, and leave it there.
use Rattle.std.specs.Prelude.{Bool, true, false, is_some}
use Rattle.am_names.specs.declared.Cause.TheVariants.{NotResident}
use Rattle.am_office_entries.specs.declared.Event.{Event}
use Rattle.am_office_entries.specs.declared.Event.TheVariants as Events
use Rattle.am_office_entries.specs.declared.Outcome.{Outcome}
use Rattle.am_office_entries.specs.declared.Outcome.TheVariants as Out
use Rattle.am_office_entries.specs.declared.Received.TheVariants as Got
use Rattle.am_model.specs.Allowed.{message_in}

-- whether the event is no call, and changes only endpoints that are in memory and stay there
abbrev pub keeps_in_memory : Event → Bool
keeps_in_memory (Events.Carry from) = true
keeps_in_memory (Events.Bind node end) = true
keeps_in_memory (Events.Expire node peer channel) = true
keeps_in_memory (Events.Receive node peer number) = true
keeps_in_memory (Events.Drain node end) = true
keeps_in_memory (Events.Unload node end) = true
keeps_in_memory (Events.Load node end frame) = true
keeps_in_memory event = false

-- whether the entry is no call, and changes only endpoints that are in memory, stay there and keep what they have in flight
abbrev pub keeps_flights : Event → Outcome → Bool
keeps_flights (Events.Carry from) outcome = true
keeps_flights (Events.Receive node peer number) (Out.Received channel seq attempt result) = is_some (message_in result)
keeps_flights (Events.Drain node end) outcome = true
keeps_flights (Events.Unload node end) outcome = true
keeps_flights (Events.Load node end frame) outcome = true
keeps_flights event outcome = false

-- whether a message was refused because its destination is not resident
abbrev pub is_kept_out : Outcome → Bool
is_kept_out (Out.Received channel seq attempt (Got.Refused m NotResident answer)) = true
is_kept_out outcome = false
