-- What comes of an application's call.
use Rattle.std.specs.Prelude.{ℕ, ◌+◌, ◌-◌, ◌%◌, ◌^◌, Bool, true, false, ◌==◌, ◌&&◌, not, nat_le, Option, Some, None, is_none, is_some, List, [], ◌∷◌, length}
use Rattle.std.specs.Prelude.{count_by, sum_by, find, nat_lt, if◌then◌else◌}
use Rattle.std.specs.List.{list_any}
use Rattle.am_names.specs.declared.EndpointId.{EndpointId}
use Rattle.am_names.specs.declared.Serial.{Serial}
use Rattle.am_names.specs.declared.Words.{Words}
use Rattle.am_names.specs.declared.MsgKind.{MsgKind}
use Rattle.am_names.specs.declared.MsgKind.TheVariants as Kind
use Rattle.am_names.specs.declared.Message.{Message}
use Rattle.am_office_entries.specs.declared.HandlerKind.{HandlerKind}
use Rattle.am_office_entries.specs.declared.HandlerKind.TheVariants.{Note, Echo, Add}
use Rattle.am_office_entries.specs.declared.Mask.{Mask}
use Rattle.am_office_entries.specs.declared.Mask.TheVariants.{NoEvents, NotEmpty}
use Rattle.am_office_entries.specs.declared.Call.{Call}
use Rattle.am_office_entries.specs.declared.Call.TheVariants as Calls
use Rattle.am_office_entries.specs.declared.Refusal.{Refusal}
use Rattle.am_office_entries.specs.declared.Refusal.TheVariants as No
use Rattle.am_office_entries.specs.declared.Outcome.{Outcome}
use Rattle.am_office_entries.specs.declared.Outcome.TheVariants as Out
use Rattle.am_names.specs.Names.{is_reply}
use Rattle.am_model.specs.Choice.{first_holding}
use Rattle.am_model.specs.declared.Mapping.{Mapping}
use Rattle.am_model.specs.declared.Awaited.{Awaited}
use Rattle.am_model.specs.declared.Notice.{Notice}
use Rattle.am_model.specs.Endpoint.{State, Body, entry_at, requests_held, replies_held, waits_for}

-- the outcome, unless there is a refusal
abbrev pub unless : Option Refusal → Outcome → Outcome
unless None outcome = outcome
unless (Some refusal) outcome = Out.Refused refusal

abbrev pub is_at : ℕ → Awaited → Bool
is_at index a = a.index == index

-- how many records there are of the index, of requests whose reply is waited for or has arrived and not run
abbrev pub records_at : Body → ℕ → ℕ
records_at b index = count_by (is_at index) b.awaited

-- how many records there are of an index above its share
abbrev pub excess_at : Body → ℕ → Option Mapping → ℕ
excess_at b index None = 0
excess_at b index (Some mapping) = records_at b index - mapping.credits

-- the same of this index and those after it
abbrev pub excess_from : Body → ℕ → List (Option Mapping) → ℕ
excess_from b index [] = 0
excess_from b index (mapping ∷ more) = excess_at b index mapping + excess_from b (index + 1) more

-- how many records there are of all indexes above their shares
abbrev pub excess : Body → ℕ
excess b = excess_from b 0 b.mapped

abbrev pub share_of : Option Mapping → ℕ
share_of None = 0
share_of (Some mapping) = mapping.credits

-- the sum of the shares of the mapped indexes
abbrev pub shares : Body → ℕ
shares b = sum_by share_of b.mapped

-- whether the index is mapped and has no credit left: without a pool its own credits are out,
-- and with one its share is out and the pool is empty
abbrev pub has_no_credit : Option ℕ → Body → ℕ → Option Mapping → Bool
has_no_credit pool b index None = false
has_no_credit None b index (Some mapping) = nat_le mapping.credits (records_at b index)
has_no_credit (Some pool) b index (Some mapping) = nat_le mapping.credits (records_at b index) && (excess b == pool)

-- whether a further share is more than the table has left
abbrev pub is_over_share : Option ℕ → Body → ℕ → Bool
is_over_share None b share = false
is_over_share (Some pool) b share = nat_lt 32 (shares b + share + pool)

abbrev pub request_refusal : Option ℕ → State → ℕ → Option Refusal
request_refusal pool s index =
    first_holding (
    (s.head.closed, No.Closed)
    ∷ (s.body.tag.0 == 0, No.OwnTagNone)
    ∷ (nat_le 16 index, No.BadIndex)
    ∷ (is_none (entry_at s.body.mapped index), No.NotMapped)
    ∷ (has_no_credit pool s.body index (entry_at s.body.mapped index), No.NoCredit)
    ∷ (nat_le 32 (length s.body.awaited), No.TableFull)
    ∷ (nat_le 16 (requests_held s.body), No.SendFull)
    ∷ [])

abbrev pub new_serial : EndpointId → State → Serial
new_serial e s = record { source = e; count = s.body.accepted + 1 }

-- the request that an endpoint makes by a mapped index
abbrev pub request_message : EndpointId → State → Mapping → ℕ → Words → Message
request_message e s mapping handler words =
    record {
      serial = new_serial e s;
      kind = Kind.Request;
      dest = mapping.name;
      tag = mapping.tag;
      reply_tag = s.body.tag;
      handler = handler;
      words = words;
      about = None;
    }

abbrev pub new_request : EndpointId → State → Option Mapping → ℕ → Words → Outcome
new_request e s None handler words = Out.Refused No.NotMapped
new_request e s (Some mapping) handler words = Out.Requested (request_message e s mapping handler words)

abbrev pub no_words : Words
no_words = record { a = 0; b = 0; c = 0; d = 0 }

-- the reply to a request, by its handler and words
abbrev pub reply : EndpointId → State → Message → MsgKind → ℕ → Words → Message
reply e s m kind handler words =
    record {
      serial = new_serial e s;
      kind = kind;
      dest = m.serial.source;
      tag = m.reply_tag;
      reply_tag = record { 0 = 0 };
      handler = handler;
      words = words;
      about = Some m.serial;
    }

-- an endpoint's sum after a handler of this kind ran
abbrev pub sum_after : Option HandlerKind → Words → ℕ → ℕ
sum_after (Some (Add to)) words sum = (sum + words.a) % 2 ^ 64
sum_after (Some (Echo to)) words sum = sum
sum_after (Some Note) words sum = sum
sum_after None words sum = sum

-- what a request's handler sends back
abbrev pub answer : EndpointId → State → Message → Option HandlerKind → Message
answer e s m (Some (Echo to)) = reply e s m Kind.Reply to m.words
answer e s m (Some (Add to)) = reply e s m Kind.Reply to (record m.words { a = sum_after (Some (Add to)) m.words s.body.sum })
answer e s m (Some Note) = reply e s m Kind.Empty 0 no_words
answer e s m None = reply e s m Kind.Empty 0 no_words

abbrev pub is_reply_kind : MsgKind → Bool
is_reply_kind Kind.Reply = true
is_reply_kind Kind.Request = false
is_reply_kind Kind.Empty = false

-- the handler that runs for a reply, if any
abbrev pub handler_run : State → Message → Option ℕ
handler_run s m = if is_reply_kind m.kind && is_some (entry_at s.body.handlers m.handler) then Some m.handler else None

-- a poll where no notice and no reply is there
abbrev pub poll_requests : EndpointId → State → List Message → Outcome
poll_requests e s [] = Out.Empty
poll_requests e s (m ∷ ms) =
    if nat_le 16 (replies_held s.body)
    then Out.Blocked
    else Out.Ran (Some m.handler) m (Some (answer e s m (entry_at s.body.handlers m.handler)))

-- a poll where no notice is there
abbrev pub poll_received : EndpointId → State → Option Message → Outcome
poll_received e s (Some m) = Out.Ran (handler_run s m) m None
poll_received e s None = poll_requests e s s.body.received

abbrev pub poll : EndpointId → State → List Notice → Outcome
poll e s (notice ∷ notices) = Out.Zero notice.message.serial notice.why
poll e s [] = poll_received e s (find is_reply s.body.received)

-- the own messages that an endpoint holds
abbrev pub messages_held : Body → ℕ
messages_held b = length b.requests + length b.replies + length b.in_flight + length b.notices

abbrev pub is_idle : Body → Bool
is_idle b = (length b.received == 0) && (messages_held b == 0) && (length b.awaited == 0)

abbrev pub is_quiet : Body → Bool
is_quiet b = (length b.notices == 0) && (length b.received == 0)

abbrev pub still_held : Body → Refusal
still_held b = No.Held (length b.received) (messages_held b) (length b.awaited)

-- what comes of a test of the events
abbrev pub tested : Mask → Bool → Outcome
tested NoEvents quiet = Out.Quiet
tested NotEmpty true = Out.Quiet
tested NotEmpty false = Out.Ready

abbrev pub busy_refusal : State → Option Refusal
busy_refusal s = first_holding ((s.head.closed, No.Closed) ∷ (not (is_idle s.body), still_held s.body) ∷ [])

abbrev pub map_refusal : Option ℕ → State → ℕ → ℕ → Option Refusal
map_refusal pool s index share =
    first_holding (
    (s.head.closed, No.Closed)
    ∷ (nat_le 16 index, No.BadIndex)
    ∷ (is_some (entry_at s.body.mapped index), No.InUse)
    ∷ (is_over_share pool s.body share, No.OverShare (shares s.body))
    ∷ [])

abbrev pub unmap_refusal : State → ℕ → Option Refusal
unmap_refusal s index =
    first_holding (
    (s.head.closed, No.Closed)
    ∷ (nat_le 16 index, No.BadIndex)
    ∷ (is_none (entry_at s.body.mapped index), No.NotMapped)
    ∷ (not (records_at s.body index == 0), No.Outstanding (records_at s.body index))
    ∷ [])

abbrev pub handler_refusal : State → ℕ → Option Refusal
handler_refusal s index = first_holding ((s.head.closed, No.Closed) ∷ (nat_le 16 index, No.BadIndex) ∷ (index == 0, No.Reserved) ∷ [])

abbrev pub give_up_refusal : State → Serial → Option Refusal
give_up_refusal s serial = first_holding ((s.head.closed, No.Closed) ∷ (not (list_any (waits_for serial) s.body.awaited), No.NoRequest) ∷ [])

-- what comes of a call on the endpoint e in this state, where there is this pool or none
abbrev pub outcome_of_call : Option ℕ → EndpointId → State → Call → Outcome
outcome_of_call pool e s (Calls.Request index handler words) =
    unless (request_refusal pool s index) (new_request e s (entry_at s.body.mapped index) handler words)
outcome_of_call pool e s Calls.Poll = poll e s s.body.notices
outcome_of_call pool e s (Calls.SetTag tag) = unless (busy_refusal s) Out.Done
outcome_of_call pool e s (Calls.Map index name tag credits) = unless (map_refusal pool s index credits) Out.Done
outcome_of_call pool e s (Calls.Unmap index) = unless (unmap_refusal s index) Out.Done
outcome_of_call pool e s (Calls.SetHandler index kind) = unless (handler_refusal s index) Out.Done
outcome_of_call pool e s (Calls.GiveUp serial) = unless (give_up_refusal s serial) Out.Done
outcome_of_call pool e s Calls.Close = unless (busy_refusal s) Out.Done
outcome_of_call pool e s (Calls.Test mask) = tested mask (is_quiet s.body)
