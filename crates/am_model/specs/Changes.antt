-- What each entry makes of an endpoint that it touches.
use Rattle.std.specs.Prelude.{ℕ, ◌+◌, Bool, true, false, ◌==◌, ◌||◌, not, Option, Some, None, List, [], ◌∷◌, ◌++◌, map, length, drop, find, slice_set}
use Rattle.std.specs.Prelude.{if◌then◌else◌}
use Rattle.am_names.specs.declared.EndpointId.{EndpointId}
use Rattle.am_names.specs.declared.Serial.{Serial}
use Rattle.am_names.specs.declared.Why.{Why}
use Rattle.am_names.specs.declared.Why.TheVariants as Whys
use Rattle.am_names.specs.declared.Cause.TheVariants.{NotResident}
use Rattle.am_names.specs.declared.Message.{Message}
use Rattle.am_office_entries.specs.declared.HandlerKind.{HandlerKind}
use Rattle.am_office_entries.specs.declared.Place.{Place}
use Rattle.am_office_entries.specs.declared.Place.TheVariants.{Host, Disk, Frame}
use Rattle.am_office_entries.specs.declared.Call.{Call}
use Rattle.am_office_entries.specs.declared.Call.TheVariants as Calls
use Rattle.am_office_entries.specs.declared.Event.{Event}
use Rattle.am_office_entries.specs.declared.Event.TheVariants as Events
use Rattle.am_office_entries.specs.declared.Received.{Received}
use Rattle.am_office_entries.specs.declared.Received.TheVariants as Got
use Rattle.am_office_entries.specs.declared.Outcome.{Outcome}
use Rattle.am_office_entries.specs.declared.Outcome.TheVariants as Out
use Rattle.am_office_entries.specs.declared.Entry.{Entry}
use Rattle.am_names.specs.Names.{same_end, same_serial, has_serial, is_request, is_reply}
use Rattle.am_model.specs.Choice.{without_first}
use Rattle.am_model.specs.declared.Mapping.{Mapping}
use Rattle.am_model.specs.declared.Awaited.{Awaited}
use Rattle.am_model.specs.declared.Queued.{Queued}
use Rattle.am_model.specs.declared.Flying.{Flying}
use Rattle.am_model.specs.declared.Notice.{Notice}
use Rattle.am_model.specs.Endpoint.{Body, State, is_on_host, entry_at, waits_for}
use Rattle.am_model.specs.Calls.{sum_after}

abbrev pub with_body : State → Body → State
with_body s b = record s { body = b }

-- wanted from now on
abbrev pub made_wanted : State → State
made_wanted s = record s { head = record s.head { wanted = true } }

-- wanted from now on, where it lies on the host
abbrev pub wanted_on_host : State → State
wanted_on_host s = record s { head = record s.head { wanted = s.head.wanted || is_on_host s.head.place } }

-- without the waiting record of the request
abbrev pub without_waiting : Serial → List Awaited → List Awaited
without_waiting serial awaited = without_first (waits_for serial) awaited

-- whether the record is of this request
abbrev pub is_of : Serial → Awaited → Bool
is_of request a = same_serial request a.serial

-- without the record of the request
abbrev pub without_record : Option Serial → List Awaited → List Awaited
without_record None awaited = awaited
without_record (Some request) awaited = without_first (is_of request) awaited

-- the record of the request that is answered, as arrived
abbrev pub arrived : Serial → Awaited → Awaited
arrived request a = record a { arrived = a.arrived || same_serial request a.serial }

abbrev pub with_arrived : Option Serial → List Awaited → List Awaited
with_arrived None awaited = awaited
with_arrived (Some request) awaited = map (arrived request) awaited

-- the request that is answered, as marked where it is in flight
abbrev pub marked : Serial → Flying → Flying
marked request f = record f { answered = f.answered || same_serial request f.message.serial }

abbrev pub with_marked : Option Serial → List Flying → List Flying
with_marked None flying = flying
with_marked (Some request) flying = map (marked request) flying

-- a message at the tail of its list, where the list is for such messages
abbrev pub appended : Bool → Message → ℕ → List Queued → List Queued
appended true m bounces queue = queue ++ record { message = m; bounces = bounces } ∷ []
appended false m bounces queue = queue

-- a message goes to its queue, having bounced so often
abbrev pub queued : Message → ℕ → Body → Body
queued m bounces b =
    record b { requests = appended (is_request m) m bounces b.requests; replies = appended (is_reply m) m bounces b.replies }

-- a message arrives and is accepted
abbrev pub put : Message → State → State
put m s =
    record s {
      body =
          record s.body {
            received = s.body.received ++ m ∷ [];
            awaited = with_arrived m.about s.body.awaited;
            in_flight = with_marked m.about s.body.in_flight;
          };
    }

-- the requests without the front message, which is a request only where there is no reply
abbrev pub requests_left : List Queued → List Queued → List Queued
requests_left [] requests = drop 1 requests
requests_left (reply ∷ replies) requests = requests

abbrev pub without_front : Body → Body
without_front b = record b { replies = drop 1 b.replies; requests = requests_left b.replies b.requests }

-- a message is returned to its source, as a notice
abbrev pub noticed : Message → ℕ → Why → Body → Body
noticed m bounces why b =
    record b { notices = b.notices ++ record { message = m; bounces = bounces; why = why } ∷ []; awaited = without_waiting m.serial b.awaited }

-- how often the front message bounced
abbrev pub bounces_of : List Queued → List Queued → ℕ
bounces_of (reply ∷ replies) requests = reply.bounces
bounces_of [] (request ∷ requests) = request.bounces
bounces_of [] [] = 0

-- the kind of the handler that ran, if any
abbrev pub kind_run : List (Option HandlerKind) → Option ℕ → Option HandlerKind
kind_run handlers None = None
kind_run handlers (Some handler) = entry_at handlers handler

-- a reply or an empty reply runs
abbrev pub answer_ran : Message → Option ℕ → Body → Body
answer_ran m handler b =
    record b {
      received = without_first is_reply b.received;
      awaited = without_record m.about b.awaited;
      sum = sum_after (kind_run b.handlers handler) m.words b.sum;
    }

-- a request runs
abbrev pub request_ran : Message → Option ℕ → Message → Body → Body
request_ran m handler reply b =
    queued reply 0 (record b { accepted = b.accepted + 1; received = drop 1 b.received; sum = sum_after (kind_run b.handlers handler) m.words b.sum })

abbrev pub with_mapped : Body → ℕ → Option Mapping → Body
with_mapped b index mapping = record b { mapped = slice_set b.mapped index mapping }

-- a request is accepted
abbrev pub request_accepted : ℕ → Message → State → State
request_accepted index m s =
    with_body (wanted_on_host s) (queued m 0 (record s.body { accepted = s.body.accepted + 1; awaited = s.body.awaited ++ record { index = index; serial = m.serial; arrived = false } ∷ [] }))

-- after a call with this outcome
abbrev pub called : State → Call → Outcome → State
called s (Calls.Request index handler words) (Out.Requested m) = request_accepted index m s
called s Calls.Poll (Out.Zero serial why) = with_body s (record s.body { notices = drop 1 s.body.notices })
called s Calls.Poll (Out.Ran handler m None) = with_body s (answer_ran m handler s.body)
called s Calls.Poll (Out.Ran handler m (Some reply)) = with_body (wanted_on_host s) (request_ran m handler reply s.body)
called s (Calls.SetTag tag) Out.Done = with_body s (record s.body { tag = tag })
called s (Calls.Map index name tag credits) Out.Done =
    with_body s (with_mapped s.body index (Some (record { name = name; tag = tag; credits = credits })))
called s (Calls.Unmap index) Out.Done = with_body s (with_mapped s.body index None)
called s (Calls.SetHandler index kind) Out.Done = with_body s (record s.body { handlers = slice_set s.body.handlers index (Some kind) })
called s (Calls.GiveUp serial) Out.Done = with_body s (record s.body { awaited = without_waiting serial s.body.awaited })
called s Calls.Close Out.Done = record s { head = record s.head { closed = true } }
called s call outcome = s

-- the source after a carry with this outcome
abbrev pub left : State → Outcome → State
left s (Out.Accepted m) = with_body s (without_front s.body)
left s (Out.Requeued m cause bounces) = with_body s (queued m bounces (without_front s.body))
left s (Out.Returned m cause) = with_body s (noticed m (bounces_of s.body.replies s.body.requests) (Whys.Refused cause) (without_front s.body))
left s outcome = s

-- the destination after a carry with this outcome
abbrev pub reached : EndpointId → State → Outcome → State
reached e s (Out.Accepted m) = if same_end e m.dest then put m s else s
reached e s outcome = s

-- after a carry from the endpoint `from`
abbrev pub carried : EndpointId → EndpointId → State → Outcome → State
carried e from s outcome = reached e (if same_end e from then left s outcome else s) outcome

-- the flight of this serial
abbrev pub flying_of : Serial → List Flying → Option Flying
flying_of serial flying = find (λ (f : Flying). has_serial serial f.message) flying

-- without the flight of this serial
abbrev pub without_flight : Serial → Body → Body
without_flight serial b = record b { in_flight = without_first (λ (f : Flying). has_serial serial f.message) b.in_flight }

-- a flight at the tail of a queue that is for such messages
abbrev pub flight_appended : (Message → Bool) → Option Flying → ℕ → List Queued → List Queued
flight_appended p None bounces queue = queue
flight_appended p (Some f) bounces queue = appended (p f.message) f.message bounces queue

-- a flight goes back to its queue
abbrev pub requeued_flight : Option Flying → ℕ → Body → Body
requeued_flight flight bounces b =
    record b { requests = flight_appended is_request flight bounces b.requests; replies = flight_appended is_reply flight bounces b.replies }

abbrev pub notice_of : Why → Option Flying → List Notice
notice_of why None = []
notice_of why (Some f) = record { message = f.message; bounces = f.bounces; why = why } ∷ []

-- a flight is returned to its source, as a notice
abbrev pub returned_flight : Serial → Option Flying → Why → Body → Body
returned_flight serial flight why b = record b { notices = b.notices ++ notice_of why flight; awaited = without_waiting serial b.awaited }

-- after a receipt with this result
abbrev pub received : EndpointId → State → Received → State
received e s (Got.Accepted m answer) = put m s
received e s (Got.Refused m NotResident answer) = made_wanted s
received e s (Got.Delivered serial) = with_body s (without_flight serial s.body)
received e s (Got.Requeued serial cause bounces) = with_body s (requeued_flight (flying_of serial s.body.in_flight) bounces (without_flight serial s.body))
received e s (Got.Returned serial cause) = with_body s (returned_flight serial (flying_of serial s.body.in_flight) (Whys.Refused cause) (without_flight serial s.body))
received e s result = s

-- after a time-out with this outcome
abbrev pub expired : State → Outcome → State
expired s (Out.Delivered serial) = with_body s (without_flight serial s.body)
expired s (Out.Unknown serial) = with_body s (returned_flight serial (flying_of serial s.body.in_flight) Whys.Unknown (without_flight serial s.body))
expired s outcome = s

-- the message in flight that an answer settles
abbrev pub settled_by : Received → Option Serial
settled_by (Got.Delivered serial) = Some serial
settled_by (Got.Requeued serial cause bounces) = Some serial
settled_by (Got.Returned serial cause) = Some serial
settled_by result = None

-- the message in flight that a time-out gives up
abbrev pub given_up_by : Outcome → Option Serial
given_up_by (Out.Delivered serial) = Some serial
given_up_by (Out.Unknown serial) = Some serial
given_up_by outcome = None

-- the message whose flight ends here: an answer settles it, or a time-out gives it up
abbrev pub settled_in : Event → Outcome → Option Serial
settled_in (Events.Receive node peer number) (Out.Received channel seq attempt result) = settled_by result
settled_in (Events.Expire node peer channel) outcome = given_up_by outcome
settled_in event outcome = None

-- after the front message was bound to a channel
abbrev pub bound : State → Outcome → State
bound s (Out.Sent m peer channel seq attempt number) =
    with_body s (record (without_front s.body) { in_flight = s.body.in_flight ++ record { message = m; bounces = bounces_of s.body.replies s.body.requests; answered = false } ∷ [] })
bound s outcome = s

abbrev pub placed : State → Place → Bool → Bool → State
placed s place wanted draining = record s { head = record s.head { place = place; wanted = wanted; draining = draining } }

abbrev pub has_queued : Body → Bool
has_queued b = not (length b.requests == 0) || not (length b.replies == 0)

abbrev pub has_arrivals : Body → Bool
has_arrivals b = not (length b.notices == 0) || not (length b.received == 0)

abbrev pub paged_out : State → Outcome → State
paged_out s Out.Done = placed s Disk (s.head.wanted || has_arrivals s.body) s.head.draining
paged_out s outcome = s

abbrev pub paged_in : State → Outcome → State
paged_in s Out.Done = placed s Host s.head.wanted s.head.draining
paged_in s outcome = s

-- the endpoint e after an event with this outcome, which touches it
abbrev pub changed : EndpointId → State → Event → Outcome → State
changed e s (Events.Call actor end call) outcome = called s call outcome
changed e s (Events.Want actor end) outcome = made_wanted s
changed e s (Events.Carry end) outcome = carried e end s outcome
changed e s (Events.Bind node end) outcome = bound s outcome
changed e s (Events.Expire node peer channel) outcome = expired s outcome
changed e s (Events.Receive node peer number) (Out.Received channel seq attempt result) = received e s result
changed e s (Events.Receive node peer number) outcome = s
changed e s (Events.Drain node end) outcome = placed s s.head.place s.head.wanted true
changed e s (Events.Unload node end) outcome = placed s Host (s.head.wanted || has_queued s.body) s.head.draining
changed e s (Events.Load node end frame) outcome = placed s (Frame frame) false false
changed e s (Events.PageOut node end) outcome = paged_out s outcome
changed e s (Events.PageIn node end) outcome = paged_in s outcome

-- the endpoint e after an entry that touches it
abbrev pub after : EndpointId → State → Entry → State
after e s x = changed e s x.event x.outcome

-- the endpoint e after the entries that touch it, from this state
abbrev pub replay : EndpointId → State → List Entry → State
replay e s [] = s
replay e s (x ∷ xs) = replay e (after e s x) xs
