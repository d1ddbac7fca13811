-- The nine laws of the post office: what every history obeys, whatever was lost, repeated, delayed or moved. Begin at the end: the record
-- `PostOffice` names them, and each stands above it under its sentence, THE LAW OF so and so.
--
-- They speak of positions in a journal, and of nothing inside the machine but the tag with which an endpoint begins and its node. What an
-- entry accepts, puts, runs, returns, leaves unknown, puts back, refuses or gives up is a role of the entry, as `put_of x`
-- (am_office_entries/specs/Entries): the message or the serial, if there is one. `EachAfter May [] journal` says that each entry x of the
-- journal, with the entries `past` before it, is so that `May past x`.
use Rattle.std.specs.Prelude.{◌≡◌, ℕ, zero, suc, ◌+◌, ◌-◌, ◌≤◌, ◌==◌, Bool, true, false, ◌&&◌, ◌||◌, not, Option, Some, None, MatchOption, unwrap_or, List, []}
use Rattle.std.specs.Prelude.{◌∷◌, ◌++◌, count_by, filter_map, slice_get, if◌then◌else◌}
use Rattle.std.specs.List.{list_any}
use Rattle.am_names.specs.declared.EndpointId.{EndpointId}
use Rattle.am_names.specs.declared.Serial.{Serial}
use Rattle.am_names.specs.declared.Message.{Message}
use Rattle.am_names.specs.declared.MsgKind.TheVariants as Kind
use Rattle.am_names.specs.declared.Tag.{Tag}
use Rattle.am_names.specs.declared.Words.{Words}
use Rattle.am_names.specs.Rules.{matches, is_transient}
use Rattle.am_names.specs.declared.Cause.{Cause}
use Rattle.am_names.specs.declared.Cause.TheVariants.{NotResident}
use Rattle.am_names.specs.declared.Why.{Why}
use Rattle.am_names.specs.declared.Why.TheVariants as Whys
use Rattle.am_office_entries.specs.declared.Refusal.TheVariants as No
use Rattle.am_office_entries.specs.declared.Call.{Call}
use Rattle.am_office_entries.specs.declared.Call.TheVariants as Calls
use Rattle.am_office_entries.specs.declared.Outcome.TheVariants as Out
use Rattle.am_office_entries.specs.declared.Event.{Event}
use Rattle.am_office_entries.specs.declared.Event.TheVariants as Events
use Rattle.am_office_entries.specs.declared.Outcome.{Outcome}
use Rattle.am_office_entries.specs.declared.Entry.{Entry}
use Rattle.am_model.specs.declared.Mapping.{Mapping}
use Rattle.am_model.specs.Layout.{Layout, home, opening}
use Rattle.am_model.specs.Calls.{share_of}
use Rattle.am_model.specs.History.{EachAfter}
use Rattle.am_names.specs.Names.{same_end, has_serial, is_request, is_reply}
use Rattle.am_office_entries.specs.Entries.{passes, is_serial, touches, accepted_of, put_of, run_of, returned_of, unknown_of, return_of, requeue_of, refusal_of}
use Rattle.am_office_entries.specs.Entries.{zero_of, given_up_of}

-- how many entries have, in this role, a message that passes
abbrev pub times : (Entry → Option Message) → (Message → Bool) → List Entry → ℕ
times role p xs = count_by (λ (x : Entry). passes p (role x)) xs

-- whether the message is of this source
abbrev pub is_from : EndpointId → Message → Bool
is_from e m = same_end e m.serial.source

-- the message that an entry accepts has the next count of its source
abbrev pub HasNextCount : List Entry → Entry → Type 0
HasNextCount past x = MatchOption (accepted_of x) (Unit {0}) (λ m. m.serial.count ≡ times accepted_of (is_from m.serial.source) past + 1)

-- how many entries have this serial in a role
abbrev pub times_serial : (Entry → Option Serial) → Serial → List Entry → ℕ
times_serial role s xs = count_by (λ (x : Entry). is_serial s (role x)) xs

-- the message, where it passes
abbrev pub only_if : (Message → Bool) → Option Message → Option Message
only_if p None = None
only_if p (Some m) = if p m then Some m else None

-- what the last entry that gives a value gives, or else the first value
abbrev pub last_given : {A : Type 0} → A → (Entry → Option A) → List Entry → A
last_given a given [] = a
last_given a given (x ∷ xs) = last_given (unwrap_or (given x) a) given xs

-- the tag to which an entry sets the own tag of an endpoint
abbrev pub tag_set : EndpointId → Event → Outcome → Option Tag
tag_set e (Events.Call actor end (Calls.SetTag tag)) Out.Done = if same_end e end then Some tag else None
tag_set e event outcome = None

-- the own tag of an endpoint: the last that was set, or else the declared one
abbrev pub own_tag : Layout → List Entry → EndpointId → Tag
own_tag layout past e = last_given (opening layout e).body.tag (λ x. tag_set e x.event x.outcome) past

-- to what an entry maps an index of an endpoint, where it maps or unmaps it
abbrev pub mapping_set : EndpointId → ℕ → Event → Outcome → Option (Option Mapping)
mapping_set e index (Events.Call actor end (Calls.Map at name tag credits)) Out.Done =
    if same_end e end && (index == at) then Some (Some (record { name = name; tag = tag; credits = credits })) else None
mapping_set e index (Events.Call actor end (Calls.Unmap at)) Out.Done = if same_end e end && (index == at) then Some None else None
mapping_set e index event outcome = None

-- what an index is mapped to: by the last map, with no unmap after it
abbrev pub mapping_of : List Entry → EndpointId → ℕ → Option Mapping
mapping_of past e index = last_given None (λ x. mapping_set e index x.event x.outcome) past

-- some entry gives this value
abbrev pub Gave : {A : Type 0} → (Entry → Option A) → List Entry → A → Type 0
Gave given past a = (k : ℕ) × (slice_get (filter_map given past) k ≡ Some a)

-- a request is the one of its call
abbrev pub IsRequestOf : Layout → List Entry → EndpointId → ℕ → ℕ → Words → Message → Type 0
IsRequestOf layout past e index handler words m =
    MatchOption (mapping_of past e index) ⊥ (λ mapping. m ≡ record {
      serial = record { source = e; count = times accepted_of (is_from e) past + 1 };
      kind = Kind.Request;
      dest = mapping.name;
      tag = mapping.tag;
      reply_tag = own_tag layout past e;
      handler = handler;
      words = words;
      about = None;
    })

-- a reply goes to the source of its request, under its reply tag
pub record IsReplyTo (e : EndpointId) (past : List Entry) (request reply : Message) : Type 0 where
  pub serial : reply.serial ≡ record { source = e; count = times accepted_of (is_from e) past + 1 }
  pub kind : is_reply reply ≡ true
  pub dest : reply.dest ≡ request.serial.source
  pub tag : reply.tag ≡ request.reply_tag
  pub reply_tag : reply.reply_tag ≡ record { 0 = 0 }
  pub about : reply.about ≡ Some request.serial

-- a request is the one of its call, and a reply goes back to the request that the poll runs
abbrev pub IsAcceptedSo : Layout → List Entry → EndpointId → Call → Outcome → Type 0
IsAcceptedSo layout past e (Calls.Request index handler words) (Out.Requested m) = IsRequestOf layout past e index handler words m
IsAcceptedSo layout past e Calls.Poll (Out.Ran handler m (Some reply)) = IsReplyTo e past m reply
IsAcceptedSo layout past e call outcome = Unit {0}

abbrev pub IsAcceptedBy : Layout → List Entry → Event → Outcome → Type 0
IsAcceptedBy layout past (Events.Call actor end call) outcome = IsAcceptedSo layout past end call outcome
IsAcceptedBy layout past event outcome = Unit {0}

-- what an entry accepts is what its call asks for
abbrev pub IsAcceptedAsAsked : Layout → List Entry → Entry → Type 0
IsAcceptedAsAsked layout past x = IsAcceptedBy layout past x.event x.outcome

-- THE LAW OF ACCEPTANCE. Each serial is accepted once, and the counts of a source are 1, 2, 3 and so on in order.
-- A request has the words and handler of its call, the name and tag that its index is mapped to, and the own tag
-- as its reply tag. A reply goes to its request's source under its request's reply tag.
pub record AcceptedOnce (layout : Layout) (journal : List Entry) : Type 0 where
  pub once : (s : Serial) → times accepted_of (has_serial s) journal ≤ 1
  pub in_order : EachAfter HasNextCount [] journal
  pub as_asked : EachAfter (IsAcceptedAsAsked layout) [] journal

-- the message was accepted as it is
abbrev pub WasAccepted : List Entry → Message → Type 0
WasAccepted past m = Gave accepted_of past m

-- a call stands at this endpoint, and a receipt at its node
abbrev pub IsAt : Layout → EndpointId → Event → Type 0
IsAt layout e (Events.Call actor end call) = end ≡ e
IsAt layout e (Events.Carry end) = Unit {0}
IsAt layout e (Events.Receive node peer number) = home layout e ≡ Some node
IsAt layout e event = ⊥

-- the handler that runs is the message's own, and only a reply may run none
abbrev pub RunsOwnHandler : Outcome → Type 0
RunsOwnHandler (Out.Ran (Some handler) m sends) = handler ≡ m.handler
RunsOwnHandler (Out.Ran None m sends) = is_reply m ≡ true
RunsOwnHandler outcome = Unit {0}

-- what an entry puts was accepted and not yet put, and is put at its destination
pub record IsFirstPut (layout : Layout) (past : List Entry) (x : Entry) (m : Message) : Type 0 where
  pub accepted : WasAccepted past m
  pub first : times put_of (has_serial m.serial) past ≡ 0
  pub touched : touches m.dest x ≡ true
  pub place : IsAt layout m.dest x.event

-- what an entry runs was accepted, put once and not yet run, and runs at its destination
pub record IsFirstRun (layout : Layout) (past : List Entry) (x : Entry) (m : Message) : Type 0 where
  pub accepted : WasAccepted past m
  pub put : times put_of (has_serial m.serial) past ≡ 1
  pub first : times run_of (has_serial m.serial) past ≡ 0
  pub touched : touches m.dest x ≡ true
  pub place : IsAt layout m.dest x.event
  pub handler : RunsOwnHandler x.outcome

abbrev pub IsPutAndRunFirst : Layout → List Entry → Entry → Type 0
IsPutAndRunFirst layout past x = MatchOption (put_of x) (Unit {0}) (IsFirstPut layout past x) × MatchOption (run_of x) (Unit {0}) (IsFirstRun layout past x)

-- each serial is accepted at most once, and put only when accepted, and run only when put
pub record EachOnce (journal : List Entry) : Type 0 where
  pub accepted : (s : Serial) → times accepted_of (has_serial s) journal ≤ 1
  pub put : (s : Serial) → times put_of (has_serial s) journal ≤ times accepted_of (has_serial s) journal
  pub run : (s : Serial) → times run_of (has_serial s) journal ≤ times put_of (has_serial s) journal

-- THE LAW OF DELIVERY. Each serial is put at most once and run at most once: accepted, then put, then run. Both are at
-- its destination, which the entry touches, and carry the accepted message; a receipt is at the destination's node.
-- The handler that runs is the message's own.
pub record PutAndRunOnce (layout : Layout) (journal : List Entry) : Type 0 where
  pub counts : EachOnce journal
  pub places : EachAfter (IsPutAndRunFirst layout) [] journal

-- the own tag of the message's destination matches the message's tag
abbrev pub IsTagged : Layout → List Entry → Message → Type 0
IsTagged layout past m = matches (own_tag layout past m.dest) m.tag ≡ true

abbrev pub TagMatches : Layout → List Entry → Entry → Type 0
TagMatches layout past x = MatchOption (put_of x) (Unit {0}) (IsTagged layout past) × MatchOption (run_of x) (Unit {0}) (IsTagged layout past)

-- THE LAW OF TAGS. Where a message is put and where it runs, the own tag of that endpoint matches the message's tag.
abbrev pub TagsMatch : Layout → List Entry → Type 0
TagsMatch layout journal = EachAfter (TagMatches layout) [] journal

-- a serial that is returned is returned once, and is nowhere put, run or unknown
pub record StaysReturned (journal : List Entry) (s : Serial) : Type 0 where
  pub once : times_serial returned_of s journal ≤ 1
  pub put : 1 ≤ times_serial returned_of s journal → times put_of (has_serial s) journal ≡ 0
  pub run : 1 ≤ times_serial returned_of s journal → times run_of (has_serial s) journal ≡ 0
  pub unknown : 1 ≤ times_serial returned_of s journal → times_serial unknown_of s journal ≡ 0

-- THE LAW OF RETURN. A serial that is returned is returned once, and is nowhere put, run or unknown.
abbrev pub ReturnedNeverRan : List Entry → Type 0
ReturnedNeverRan journal = (s : Serial) → StaysReturned journal s

-- THE LAW OF THE UNKNOWN. A serial is unknown at most once.
abbrev pub UnknownOnce : List Entry → Type 0
UnknownOnce journal = (s : Serial) → times_serial unknown_of s journal ≤ 1

-- one reply for the run of a request, and none without
abbrev pub SendsOneReply : Call → Outcome → Type 0
SendsOneReply (Calls.Request index handler words) (Out.Requested m) = is_request m ≡ true
SendsOneReply Calls.Poll (Out.Ran handler m (Some reply)) = (is_request m ≡ true) × (is_reply reply ≡ true) × (reply.about ≡ Some m.serial)
SendsOneReply Calls.Poll (Out.Ran handler m None) = is_reply m ≡ true
SendsOneReply call outcome = Unit {0}

abbrev pub SendsOne : Event → Outcome → Type 0
SendsOne (Events.Call actor end call) outcome = SendsOneReply call outcome
SendsOne event outcome = Unit {0}

-- whether the message is about this request
abbrev pub is_about : Serial → Message → Bool
is_about s m = is_serial s m.about

-- whether an entry ends the wait for a reply: the reply is put, or the request is returned, unknown or given up
abbrev pub ends_wait : Serial → Entry → Bool
ends_wait s x = passes (is_about s) (put_of x) || is_serial s (returned_of x) || is_serial s (unknown_of x) || is_serial s (given_up_of x)

-- whether the request was accepted, and its reply is still waited for
abbrev pub is_outstanding : List Entry → Serial → Bool
is_outstanding past s = list_any (λ (x : Entry). passes (λ m. has_serial s m && is_request m) (accepted_of x)) past && not (list_any (ends_wait s) past)

-- the reply to an outstanding request is refused for no cause but that the endpoint is not resident
abbrev pub IsCredited : List Entry → (Message × Cause) → Type 0
IsCredited past refusal = (s : Serial) → refusal.0.about ≡ Some s → is_outstanding past s ≡ true → refusal.1 ≡ NotResident

-- THE LAW OF REPLIES. A reply is accepted only in the run of its request, and each run of a request accepts exactly
-- one. While a request is outstanding, no entry refuses its reply for a cause other than that its endpoint is not
-- resident.
pub record OneReplyPerRun (journal : List Entry) : Type 0 where
  pub sends : EachAfter (λ past x. SendsOne x.event x.outcome) [] journal
  pub credited : EachAfter (λ past x. MatchOption (refusal_of x) (Unit {0}) (IsCredited past)) [] journal

-- whether an entry ends the hold of a request: its reply runs, or it is returned, unknown or given up
abbrev pub ends_hold : Serial → Entry → Bool
ends_hold s x = passes (is_about s) (run_of x) || is_serial s (returned_of x) || is_serial s (unknown_of x) || is_serial s (given_up_of x)

-- the request that an endpoint makes by an index that passes
abbrev pub asked_in : EndpointId → (ℕ → Bool) → Event → Outcome → Option Serial
asked_in e at (Events.Call actor end (Calls.Request index handler words)) (Out.Requested m) = if same_end e end && at index then Some m.serial else None
asked_in e at event outcome = None

-- whether the request is still held
abbrev pub is_held : List Entry → Option Serial → Bool
is_held past None = false
is_held past (Some s) = not (list_any (ends_hold s) past)

-- how many requests that an endpoint made by the indexes that pass are held
abbrev pub held_by : List Entry → EndpointId → (ℕ → Bool) → ℕ
held_by past e at = count_by (λ (x : Entry). is_held past (asked_in e at x.event x.outcome)) past

-- the requests of an index that are held
abbrev pub held_at : List Entry → EndpointId → ℕ → ℕ
held_at past e index = held_by past e (λ (at : ℕ). index == at)

-- how many held requests of an index are above its share
abbrev pub over_share : Option Mapping → ℕ → ℕ
over_share None held = 0
over_share (Some mapping) held = held - mapping.credits

-- the requests of the indexes below this one that are held above their shares
abbrev pub held_over : List Entry → EndpointId → ℕ → ℕ
held_over past e zero = 0
held_over past e (suc index) = over_share (mapping_of past e index) (held_at past e index) + held_over past e index

-- the shares of the indexes below this one
abbrev pub shares_below : List Entry → EndpointId → ℕ → ℕ
shares_below past e zero = 0
shares_below past e (suc index) = share_of (mapping_of past e index) + shares_below past e index

-- the held requests of an endpoint are within its credits, or its shares and its pool
abbrev pub IsWithinCredits : Option ℕ → List Entry → EndpointId → Type 0
IsWithinCredits None past e = (index : ℕ) → MatchOption (mapping_of past e index) (held_at past e index ≡ 0) (λ mapping. held_at past e index ≤ mapping.credits)
IsWithinCredits (Some pool) past e = (held_over past e 16 ≤ pool) × (shares_below past e 16 + pool ≤ 32)

-- an index that is mapped has as many held requests as its share, or more
abbrev pub HasItsShare : List Entry → EndpointId → ℕ → Type 0
HasItsShare past e index = MatchOption (mapping_of past e index) (Unit {0}) (λ mapping. mapping.credits ≤ held_at past e index)

-- where there is a pool, a request that is refused for want of a credit or of a record has its share held
abbrev pub RefusesAboveShare : Option ℕ → List Entry → Event → Outcome → Type 0
RefusesAboveShare (Some pool) past (Events.Call actor end (Calls.Request index handler words)) (Out.Refused No.NoCredit) = HasItsShare past end index
RefusesAboveShare (Some pool) past (Events.Call actor end (Calls.Request index handler words)) (Out.Refused No.TableFull) = HasItsShare past end index
RefusesAboveShare pool past event outcome = Unit {0}

-- THE LAW OF CREDITS. Without a pool, at every place the held requests of an index are at most its credits. With a pool,
-- at every place the sum over an endpoint's mapped indexes of the held requests above each index's share is at most
-- the pool, the sum of the shares with the pool is at most 32, and a request over an index with fewer held requests
-- than its share is refused neither as no-credit nor as table-full. The held requests of an endpoint are at most 32.
pub record CreditsHold (layout : Layout) (journal : List Entry) : Type 0 where
  pub within : (before later : List Entry) → journal ≡ before ++ later → (e : EndpointId) → IsWithinCredits layout.pool before e
  pub table : (before later : List Entry) → journal ≡ before ++ later → (e : EndpointId) → held_by before e (λ (at : ℕ). true) ≤ 32
  pub shared : EachAfter (λ past x. RefusesAboveShare layout.pool past x.event x.outcome) [] journal

-- the serial was left unknown, or returned for this cause
abbrev pub CameBack : List Entry → Serial → Why → Type 0
CameBack past s Whys.Unknown = Gave unknown_of past s
CameBack past s (Whys.Refused cause) = Gave return_of past (s, cause)

-- a zero is the first of its serial, at its source, after it came back for that cause
pub record IsFirstZero (past : List Entry) (end : EndpointId) (s : Serial) (why : Why) : Type 0 where
  pub place : end ≡ s.source
  pub first : times_serial zero_of s past ≡ 0
  pub cause : CameBack past s why

abbrev pub ZeroesOnce : List Entry → Event → Outcome → Type 0
ZeroesOnce past (Events.Call actor end Calls.Poll) (Out.Zero serial why) = IsFirstZero past end serial why
ZeroesOnce past event outcome = Unit {0}

-- THE LAW OF NOTICES. There is at most one zero per serial, at its source, after its return or unknown, and with that
-- cause.
pub record OneZero (journal : List Entry) : Type 0 where
  pub once : (s : Serial) → times_serial zero_of s journal ≤ 1
  pub places : EachAfter (λ past x. ZeroesOnce past x.event x.outcome) [] journal

-- a return for a transient cause comes after exactly so many requeues
abbrev pub IsLastBounce : Layout → List Entry → (Serial × Cause) → Type 0
IsLastBounce layout past return = is_transient return.1 ≡ true → times_serial requeue_of return.0 past ≡ layout.bounces

-- THE LAW OF BOUNCES. A serial has at most as many requeues as the limit of bounces, and is returned for a transient
-- cause only after exactly that many of them.
pub record BouncesBounded (layout : Layout) (journal : List Entry) : Type 0 where
  pub most : (s : Serial) → times_serial requeue_of s journal ≤ layout.bounces
  pub last : EachAfter (λ past x. MatchOption (return_of x) (Unit {0}) (IsLastBounce layout past)) [] journal

-- THE NINE LAWS. Each stands above, under its sentence.
pub record PostOffice (layout : Layout) (journal : List Entry) : Type 0 where
  pub acceptance : AcceptedOnce layout journal
  pub delivery : PutAndRunOnce layout journal
  pub tags : TagsMatch layout journal
  pub return : ReturnedNeverRan journal
  pub unknown : UnknownOnce journal
  pub replies : OneReplyPerRun journal
  pub credits : CreditsHold layout journal
  pub notices : OneZero journal
  pub bounces : BouncesBounded layout journal
