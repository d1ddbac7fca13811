-- The slots of the messages in flight, and messages that begin or end to be in flight.
use Rattle.std.specs.Prelude.{ℕ, cond, false, Option, None, Some, List, [], ◌∷◌, ◌++◌}
use Rattle.am_names.specs.Names.{has_serial}
use Rattle.am_names.specs.declared.Serial.{Serial}
use Rattle.am_names.specs.declared.Why.{Why}
use Rattle.am_model.specs.declared.Flying.{Flying}
use Rattle.am_model.specs.declared.Queued.{Queued}
use Rattle.am_model.specs.Changes.{flying_of, notice_of, without_flight, without_front}
use Rattle.am_model.specs.Endpoint.{Body, front_of}

-- the slot beside the first of these messages that has this serial
abbrev pub slot_of : Serial → List Flying → List ℕ → Option ℕ
slot_of serial [] slots = None
slot_of serial (f ∷ fs) [] = None
slot_of serial (f ∷ fs) (s ∷ slots) = cond (has_serial serial f.message) (Some s) (slot_of serial fs slots)

-- a message that begins to be in flight, which has no reply yet
abbrev pub aloft : Option Queued → List Flying
aloft None = []
aloft (Some q) = record { message = q.message; bounces = q.bounces; answered = false } ∷ []

-- a body whose front message, if it has one, is in flight
abbrev pub front_aloft : Body → Body
front_aloft b = record (without_front b) { in_flight = b.in_flight ++ aloft (front_of b.replies b.requests) }

-- a body whose message in flight with this serial, if it has one, is a notice
abbrev pub flight_noticed : Serial → Why → Body → Body
flight_noticed serial why b = record (without_flight serial b) { notices = b.notices ++ notice_of why (flying_of serial b.in_flight) }
