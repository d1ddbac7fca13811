-- What an entry of either network does to the messages that an endpoint is to send.
use Rattle.std.proofs.Common.{◌≡◌, ℕ, ◌+◌, Bool, true, Option, Some, None, refl, arith, ◌≤◌, subst}
use Rattle.std.specs.List.{list_any}
use Rattle.am_names.specs.declared.EndpointId.{EndpointId}
use Rattle.am_names.specs.declared.Message.{Message}
use Rattle.am_office_entries.specs.declared.Event.{Event}
use Rattle.am_office_entries.specs.declared.Event.TheVariants as Events
use Rattle.am_office_entries.specs.declared.Outcome.{Outcome}
use Rattle.am_office_entries.specs.declared.Outcome.TheVariants as Out
use Rattle.am_names.specs.Names.{same_end, is_request, has_serial, same_serial}
use Rattle.am_model.specs.declared.Queued.{Queued}
use Rattle.am_model.specs.Endpoint.{State, Body, front}
use Rattle.am_model.specs.Changes.{changed, received, expired, bound, flying_of, requeued_flight, without_flight}
use Rattle.am_office_entries.specs.Entries.{ends_touched, passes, accepted_in, requeue_by}
use Rattle.am_names.specs.declared.Serial.{Serial}
use Rattle.am_names.specs.declared.Cause.TheVariants.{NotResident}
use Rattle.am_office_entries.specs.declared.Received.{Received}
use Rattle.am_office_entries.specs.declared.Received.TheVariants as Got
use Rattle.am_model.specs.declared.Flying.{Flying}
use Rattle.am_model.specs.Channels.{sent_message}
use Rattle.am_model.proofs.Received.{bit}
use Rattle.am_model.proofs.Names.{same_serial-is}
use Rattle.am_model.proofs.Queues.{to_send, called_sends, front_leaves, both_appended, paged_out_sends, paged_in_sends}
use Rattle.am_model.proofs.Chosen.{flying_of-has_serial}

abbrev pub weight_serial : Serial → Option Serial → ℕ
weight_serial s None = 0
weight_serial s (Some t) = bit (same_serial s t)

abbrev pub flight_weight : (Message → Bool) → Option Flying → ℕ
flight_weight p None = 0
flight_weight p (Some g) = bit (p g.message)

-- a flight that goes back is one more, where it passes
pub flight_sends : (p : Message → Bool) (used : ℕ) (b : Body) (f : Option Flying) → to_send p (requeued_flight f used b) ≡ to_send p b + flight_weight p f
flight_sends p used b None = omega arith
flight_sends p used b (Some g) = both_appended p g.message used b.requests b.replies (is_request g.message)

-- the message that is bound here was the front one of its source
pub record IsFront (s : State) (o : Outcome) : Type 0 where
  pub queued : Queued
  pub is_front : front s ≡ Some queued
  pub is_sent : sent_message o ≡ Some queued.message

-- what is bound here
abbrev pub bound_at : Event → Outcome → Option Message
bound_at (Events.Bind node end) o = sent_message o
bound_at event o = None

abbrev pub requeued_in : Event → Outcome → Option Serial
requeued_in (Events.Receive node peer number) (Out.Received channel seq attempt r) = requeue_by r
requeued_in event o = None

-- an event of the packet network, and a bind of the front message or of nothing
abbrev pub FitsPacket : State → Event → Outcome → Type 0
FitsPacket s (Events.Carry end) o = ⊥
FitsPacket s (Events.Bind node end) o = IsFront s o
FitsPacket s event o = Unit {0}

pub bound_sends : (p : Message → Bool) (s : State) (o : Outcome) (m : Option Message) → sent_message o ≡ m → IsFront s o →
    to_send p (bound s o).body + bit (passes p m) ≡ to_send p s.body
bound_sends p s (Out.Sent m peer channel seq attempt number) n is f =
    let same : Some m ≡ Some f.queued.message = f.is_sent in
    let at : m ≡ f.queued.message = cc in
    rw (← is) (rw at (front_leaves p s f.queued f.is_front))
bound_sends p s o n is f = absurd (cc)

pub expired_sends : (p : Message → Bool) (s : State) (o : Outcome) → to_send p (expired s o).body ≡ to_send p s.body
expired_sends p s (Out.Delivered serial) = refl
expired_sends p s (Out.Unknown serial) = refl
expired_sends p s o = refl

-- a message of this serial is to be sent once more where it is requeued
received_sends : (t : Serial) (e : EndpointId) (s : State) (r : Received) →
    to_send (has_serial t) (received e s r).body ≤ to_send (has_serial t) s.body + weight_serial t (requeue_by r)
received_sends t e s (Got.Accepted m answer) = omega arith
received_sends t e s (Got.Refused m NotResident answer) = omega arith
received_sends t e s (Got.Delivered serial) = omega arith
received_sends t e s (Got.Requeued serial cause used) =
    omega (
      arith,
      flight_sends (has_serial t) used (without_flight serial s.body) (flying_of serial s.body.in_flight),
      by_flight (flying_of serial s.body.in_flight) refl,
    )
  where
    by_flight : (f : Option Flying) → flying_of serial s.body.in_flight ≡ f → flight_weight (has_serial t) f ≤ bit (same_serial t serial)
    by_flight None is = omega arith
    by_flight (Some g) is =
        let same : serial ≡ g.message.serial = same_serial-is serial g.message.serial (flying_of-has_serial serial s.body.in_flight g is) in
        subst (λ (w : Serial). bit (same_serial t w) ≤ bit (same_serial t serial)) same (omega arith)
received_sends t e s (Got.Returned serial cause) = omega arith
received_sends t e s r = omega arith

-- an entry that touches an endpoint of the packet network
pub packet_sends : (t : Serial) (e : EndpointId) (s : State) (event : Event) (o : Outcome) → list_any (same_end e) (ends_touched event o) ≡ true →
    FitsPacket s event o → to_send (has_serial t) (changed e s event o).body + bit (passes (has_serial t) (bound_at event o)) ≤ to_send (has_serial t) s.body +
    bit (passes (has_serial t) (accepted_in event o)) + weight_serial t (requeued_in event o)
packet_sends t e s (Events.Call actor end call) o h fits = omega (arith, called_sends (has_serial t) s call o)
packet_sends t e s (Events.Want actor end) o h fits = omega arith
packet_sends t e s (Events.Carry end) o h fits = absurd fits
packet_sends t e s (Events.Bind node end) o h fits = omega (arith, bound_sends (has_serial t) s o (sent_message o) refl fits)
packet_sends t e s (Events.Expire node peer channel) o h fits = omega (arith, expired_sends (has_serial t) s o)
packet_sends t e s (Events.Receive node peer number) (Out.Received channel seq attempt r) h fits = omega (arith, received_sends t e s r)
packet_sends t e s (Events.Receive node peer number) o h fits = omega arith
packet_sends t e s (Events.Drain node end) o h fits = omega arith
packet_sends t e s (Events.Unload node end) o h fits = omega arith
packet_sends t e s (Events.Load node end frame) o h fits = omega arith
packet_sends t e s (Events.PageOut node end) o h fits = omega (arith, paged_out_sends (has_serial t) s o)
packet_sends t e s (Events.PageIn node end) o h fits = omega (arith, paged_in_sends (has_serial t) s o)
