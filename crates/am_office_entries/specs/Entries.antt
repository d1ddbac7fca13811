-- What an entry does, and what it touches. An entry is an event with its outcome, and has roles, each a definition `.._of`, which gives the
-- message or the serial that the entry
--   accepts   takes over from its sender: a request by its call, or the reply of the handler that a poll runs;
--   puts      adds to the received messages of its destination;
--   runs      hands to a handler, in a poll;
--   returns   gives back to its sender for a cause, for good;
--   unknown   no longer waits for after the last time-out: it may have run or not;
--   requeues  puts back into its sender's list, to be sent again;
--   refuses   doesn't put, for a cause;
--   zero      tells its sender by handler 0: a notice;
--   gives up  no longer waits for, since its sender said so.
-- The definitions `.._by` and `.._in` are their cases.
use Rattle.std.specs.Prelude.{ℕ, Bool, false, ◌||◌, Option, Some, None, List, [], ◌∷◌}
use Rattle.std.specs.List.{list_any}
use Rattle.am_names.specs.declared.EndpointId.{EndpointId}
use Rattle.am_names.specs.declared.NodeId.{NodeId}
use Rattle.am_names.specs.declared.Serial.{Serial}
use Rattle.am_names.specs.declared.Cause.{Cause}
use Rattle.am_names.specs.declared.Message.{Message}
use Rattle.am_names.specs.declared.Packet.{Packet}
use Rattle.am_names.specs.declared.Packet.TheVariants as Packets
use Rattle.am_names.specs.declared.Verdict.{Verdict}
use Rattle.am_names.specs.declared.Verdict.TheVariants as Verdicts
use Rattle.am_office_entries.specs.declared.Call.{Call}
use Rattle.am_office_entries.specs.declared.Call.TheVariants as Calls
use Rattle.am_office_entries.specs.declared.Event.{Event}
use Rattle.am_office_entries.specs.declared.Event.TheVariants as Events
use Rattle.am_office_entries.specs.declared.Received.{Received}
use Rattle.am_office_entries.specs.declared.Received.TheVariants as Got
use Rattle.am_office_entries.specs.declared.Outcome.{Outcome}
use Rattle.am_office_entries.specs.declared.Outcome.TheVariants as Out
use Rattle.am_office_entries.specs.declared.Entry.{Entry}
use Rattle.am_names.specs.Names.{same_end, same_node, same_serial}

-- the message that a call accepts
abbrev pub accepted_by : Call → Outcome → Option Message
accepted_by (Calls.Request index handler words) (Out.Requested m) = Some m
accepted_by Calls.Poll (Out.Ran handler m sends) = sends
accepted_by call outcome = None

abbrev pub accepted_in : Event → Outcome → Option Message
accepted_in (Events.Call actor end call) outcome = accepted_by call outcome
accepted_in event outcome = None

-- the message that an entry accepts
abbrev pub accepted_of : Entry → Option Message
accepted_of x = accepted_in x.event x.outcome

abbrev pub put_by : Received → Option Message
put_by (Got.Accepted m answer) = Some m
put_by result = None

abbrev pub put_in : Event → Outcome → Option Message
put_in (Events.Carry end) (Out.Accepted m) = Some m
put_in (Events.Receive node peer number) (Out.Received channel seq attempt result) = put_by result
put_in event outcome = None

-- the message that an entry puts
abbrev pub put_of : Entry → Option Message
put_of x = put_in x.event x.outcome

-- the message that a call runs
abbrev pub run_by : Call → Outcome → Option Message
run_by Calls.Poll (Out.Ran handler m sends) = Some m
run_by call outcome = None

abbrev pub run_in : Event → Outcome → Option Message
run_in (Events.Call actor end call) outcome = run_by call outcome
run_in event outcome = None

-- the message that an entry runs
abbrev pub run_of : Entry → Option Message
run_of x = run_in x.event x.outcome

abbrev pub returned_by : Received → Option Serial
returned_by (Got.Returned serial cause) = Some serial
returned_by result = None

abbrev pub returned_in : Event → Outcome → Option Serial
returned_in (Events.Carry end) (Out.Returned m cause) = Some m.serial
returned_in (Events.Receive node peer number) (Out.Received channel seq attempt result) = returned_by result
returned_in event outcome = None

-- the serial that an entry returns
abbrev pub returned_of : Entry → Option Serial
returned_of x = returned_in x.event x.outcome

abbrev pub unknown_in : Event → Outcome → Option Serial
unknown_in (Events.Expire node peer channel) (Out.Unknown serial) = Some serial
unknown_in event outcome = None

-- the serial that an entry leaves unknown
abbrev pub unknown_of : Entry → Option Serial
unknown_of x = unknown_in x.event x.outcome

-- the serial that an entry returns, and its cause
abbrev pub return_by : Received → Option (Serial × Cause)
return_by (Got.Returned serial cause) = Some (serial, cause)
return_by result = None

abbrev pub return_in : Event → Outcome → Option (Serial × Cause)
return_in (Events.Carry end) (Out.Returned m cause) = Some (m.serial, cause)
return_in (Events.Receive node peer number) (Out.Received channel seq attempt result) = return_by result
return_in event outcome = None

-- the serial that an entry returns, with its cause
abbrev pub return_of : Entry → Option (Serial × Cause)
return_of x = return_in x.event x.outcome

abbrev pub requeue_by : Received → Option Serial
requeue_by (Got.Requeued serial cause bounces) = Some serial
requeue_by result = None

abbrev pub requeue_in : Event → Outcome → Option Serial
requeue_in (Events.Carry end) (Out.Requeued m cause bounces) = Some m.serial
requeue_in (Events.Receive node peer number) (Out.Received channel seq attempt result) = requeue_by result
requeue_in event outcome = None

-- the serial that an entry puts back into its list
abbrev pub requeue_of : Entry → Option Serial
requeue_of x = requeue_in x.event x.outcome

abbrev pub refusal_by : Received → Option (Message × Cause)
refusal_by (Got.Refused m cause answer) = Some (m, cause)
refusal_by result = None

abbrev pub refusal_in : Event → Outcome → Option (Message × Cause)
refusal_in (Events.Carry end) (Out.Requeued m cause bounces) = Some (m, cause)
refusal_in (Events.Carry end) (Out.Returned m cause) = Some (m, cause)
refusal_in (Events.Receive node peer number) (Out.Received channel seq attempt result) = refusal_by result
refusal_in event outcome = None

-- the message that an entry refuses, and the cause
abbrev pub refusal_of : Entry → Option (Message × Cause)
refusal_of x = refusal_in x.event x.outcome

abbrev pub zero_in : Event → Outcome → Option Serial
zero_in (Events.Call actor end Calls.Poll) (Out.Zero serial why) = Some serial
zero_in event outcome = None

-- the serial of the notice for which handler 0 runs
abbrev pub zero_of : Entry → Option Serial
zero_of x = zero_in x.event x.outcome

abbrev pub given_up_in : Event → Outcome → Option Serial
given_up_in (Events.Call actor end (Calls.GiveUp serial)) Out.Done = Some serial
given_up_in event outcome = None

-- the serial that an entry gives up
abbrev pub given_up_of : Entry → Option Serial
given_up_of x = given_up_in x.event x.outcome

-- the message that a receipt puts, refuses, judges again, settles, puts back or returns
abbrev pub received_about : Received → Option Serial
received_about (Got.Accepted m answer) = Some m.serial
received_about (Got.Refused m cause answer) = Some m.serial
received_about (Got.Again serial verdict answer) = Some serial
received_about Got.Stale = None
received_about (Got.Delivered serial) = Some serial
received_about (Got.Requeued serial cause used) = Some serial
received_about (Got.Returned serial cause) = Some serial
received_about Got.Nothing = None

-- the endpoint that a carry reaches
abbrev pub reached_by : Outcome → List EndpointId
reached_by (Out.Accepted m) = m.dest ∷ []
reached_by (Out.Requeued m cause used) = m.dest ∷ []
reached_by (Out.Returned m cause) = m.dest ∷ []
reached_by outcome = []

-- the endpoint that a receipt touches
abbrev pub touched_by_result : Received → List EndpointId
touched_by_result (Got.Accepted m answer) = m.dest ∷ []
touched_by_result (Got.Refused m cause answer) = m.dest ∷ []
touched_by_result (Got.Delivered serial) = serial.source ∷ []
touched_by_result (Got.Requeued serial cause used) = serial.source ∷ []
touched_by_result (Got.Returned serial cause) = serial.source ∷ []
touched_by_result result = []

-- the endpoint that a time-out touches
abbrev pub touched_by_expiry : Outcome → List EndpointId
touched_by_expiry (Out.Delivered serial) = serial.source ∷ []
touched_by_expiry (Out.Unknown serial) = serial.source ∷ []
touched_by_expiry outcome = []

-- the endpoints that an event with this outcome touches
abbrev pub ends_touched : Event → Outcome → List EndpointId
ends_touched (Events.Call actor end call) outcome = end ∷ []
ends_touched (Events.Want actor end) outcome = end ∷ []
ends_touched (Events.Carry end) outcome = end ∷ reached_by outcome
ends_touched (Events.Bind node end) outcome = end ∷ []
ends_touched (Events.Expire node peer channel) outcome = touched_by_expiry outcome
ends_touched (Events.Receive node peer number) (Out.Received channel seq attempt result) = touched_by_result result
ends_touched (Events.Receive node peer number) outcome = []
ends_touched (Events.Drain node end) outcome = end ∷ []
ends_touched (Events.Unload node end) outcome = end ∷ []
ends_touched (Events.Load node end frame) outcome = end ∷ []
ends_touched (Events.PageOut node end) outcome = end ∷ []
ends_touched (Events.PageIn node end) outcome = end ∷ []

-- whether an entry touches this endpoint
abbrev pub touches : EndpointId → Entry → Bool
touches e x = list_any (same_end e) (ends_touched x.event x.outcome)

-- the interface that an event touches
abbrev pub node_touched : Event → Option NodeId
node_touched (Events.Bind node end) = Some node
node_touched (Events.Expire node peer channel) = Some node
node_touched (Events.Receive node peer number) = Some node
node_touched event = None

abbrev pub is_node : NodeId → Option NodeId → Bool
is_node node None = false
is_node node (Some other) = same_node node other

-- whether an entry touches the interface of this node
abbrev pub touches_node : NodeId → Entry → Bool
touches_node node x = is_node node (node_touched x.event)

abbrev pub shares_node : Option NodeId → Entry → Bool
shares_node None y = false
shares_node (Some node) y = touches_node node y

-- whether two entries touch a common part
abbrev pub share_part : Entry → Entry → Bool
share_part x y = list_any (λ e. touches e y) (ends_touched x.event x.outcome) || shares_node (node_touched x.event) y

-- the answer in a receipt, if it sends one: its number and its verdict
abbrev pub answer_by : Received → Option (ℕ × Verdict)
answer_by (Got.Accepted m answer) = Some (answer, Verdicts.Accepted)
answer_by (Got.Refused m cause answer) = Some (answer, Verdicts.Refused cause)
answer_by (Got.Again serial verdict answer) = Some (answer, verdict)
answer_by result = None

abbrev pub answer_packet : NodeId → NodeId → ℕ → ℕ → ℕ → ℕ → Option (ℕ × Verdict) → Option Packet
answer_packet node peer channel seq attempt stamp None = None
answer_packet node peer channel seq attempt stamp (Some answer) =
    Some (Packets.Answer (record { from = node; to = peer; channel = channel; seq = seq; attempt = attempt; number = answer.0; stamp = stamp; verdict = answer.1 }))

abbrev pub parcel : NodeId → ℕ → Outcome → Option Packet
parcel node stamp (Out.Sent m peer channel seq attempt number) =
    Some (Packets.Parcel (record { from = node; to = peer; channel = channel; seq = seq; attempt = attempt; number = number; stamp = stamp; message = m }))
parcel node stamp outcome = None

abbrev pub emitted_in : ℕ → Event → Outcome → Option Packet
emitted_in stamp (Events.Bind node end) outcome = parcel node stamp outcome
emitted_in stamp (Events.Expire node peer channel) outcome = parcel node stamp outcome
emitted_in stamp (Events.Receive node peer number) (Out.Received channel seq attempt result) =
    answer_packet node peer channel seq attempt stamp (answer_by result)
emitted_in stamp event outcome = None

-- the packet that an entry emits
abbrev pub emitted_of : Entry → Option Packet
emitted_of x = emitted_in x.stamp x.event x.outcome

-- whether there is a message, and it passes
abbrev pub passes : (Message → Bool) → Option Message → Bool
passes p None = false
passes p (Some m) = p m

-- whether there is a serial, and it is this one
abbrev pub is_serial : Serial → Option Serial → Bool
is_serial s None = false
is_serial s (Some t) = same_serial s t
