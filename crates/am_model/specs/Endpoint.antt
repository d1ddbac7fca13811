-- The state of an endpoint, and its verdict on a message.
use Rattle.std.specs.Prelude.{ℕ, ◌+◌, ◌≤◌, Bool, true, false, ◌&&◌, not, nat_le, Option, Some, None, is_none, List, [], ◌∷◌, length, replicate, slice_index_or}
use Rattle.std.specs.Prelude.{count_by}
use Rattle.std.specs.List.{list_any}
use Rattle.am_names.specs.Rules.{matches}
use Rattle.am_names.specs.declared.Tag.{Tag}
use Rattle.am_names.specs.declared.Serial.{Serial}
use Rattle.am_names.specs.declared.Cause.{Cause}
use Rattle.am_names.specs.declared.Cause.TheVariants.{NoEndpoint, NotResident, BadTag, BadHandler, QueueFull, NoRequest}
use Rattle.am_names.specs.declared.Verdict.{Verdict}
use Rattle.am_names.specs.declared.Verdict.TheVariants as Verdicts
use Rattle.am_names.specs.declared.Message.{Message}
use Rattle.am_office_entries.specs.declared.HandlerKind.{HandlerKind}
use Rattle.am_office_entries.specs.declared.Place.{Place}
use Rattle.am_office_entries.specs.declared.Place.TheVariants.{Host, Disk, Frame, Direct}
use Rattle.am_model.specs.declared.Awaited.{Awaited}
use Rattle.am_model.specs.declared.Flying.{Flying}
use Rattle.am_model.specs.declared.Head.{Head}
use Rattle.am_model.specs.declared.Mapping.{Mapping}
use Rattle.am_model.specs.declared.Notice.{Notice}
use Rattle.am_model.specs.declared.Queued.{Queued}
use Rattle.am_names.specs.Names.{same_serial, is_request, is_reply}
use Rattle.am_model.specs.Choice.{first_holding}

pub record Body : Type 0 where
  pub tag : Tag
  pub sum : ℕ
  pub accepted : ℕ
  pub mapped : List (Option Mapping)
  pub awaited : List Awaited
  pub handlers : List (Option HandlerKind)
  pub requests : List Queued
  pub replies : List Queued
  pub in_flight : List Flying
  pub notices : List Notice
  pub received : List Message

pub record State : Type 0 where
  pub head : Head
  pub body : Body

-- a fresh endpoint with this tag, at this place
abbrev pub fresh : Tag → Place → State
fresh tag place =
    record {
      head = record { place = place; wanted = false; draining = false; closed = false };
      body =
          record {
            tag = tag;
            sum = 0;
            accepted = 0;
            mapped = replicate 16 None;
            awaited = [];
            handlers = replicate 16 None;
            requests = [];
            replies = [];
            in_flight = [];
            notices = [];
            received = [];
          };
    }

abbrev pub is_resident : Place → Bool
is_resident (Frame frame) = true
is_resident Direct = true
is_resident Host = false
is_resident Disk = false

-- whether an endpoint lies in a frame
abbrev pub is_in_a_frame : Place → Bool
is_in_a_frame (Frame frame) = true
is_in_a_frame Direct = false
is_in_a_frame Host = false
is_in_a_frame Disk = false

-- whether an endpoint is one of the direct network
abbrev pub is_direct : Place → Bool
is_direct Direct = true
is_direct (Frame frame) = false
is_direct Host = false
is_direct Disk = false

abbrev pub is_on_disk : Place → Bool
is_on_disk Disk = true
is_on_disk (Frame frame) = false
is_on_disk Direct = false
is_on_disk Host = false

abbrev pub is_on_host : Place → Bool
is_on_host Host = true
is_on_host (Frame frame) = false
is_on_host Direct = false
is_on_host Disk = false

-- an entry of a table, where the index has one
abbrev pub entry_at : {X : Type 0} → List (Option X) → ℕ → Option X
entry_at xs index = slice_index_or xs index None

-- the front message: the front of replies, and where there is none the front of requests
abbrev pub front_of : List Queued → List Queued → Option Queued
front_of (reply ∷ replies) requests = Some reply
front_of [] (request ∷ requests) = Some request
front_of [] [] = None

abbrev pub front : State → Option Queued
front s = front_of s.body.replies s.body.requests

-- how many request slots are held
abbrev pub requests_held : Body → ℕ
requests_held b =
    length b.requests + count_by (λ (f : Flying). is_request f.message) b.in_flight + count_by (λ (n : Notice). is_request n.message) b.notices

-- how many reply slots are held
abbrev pub replies_held : Body → ℕ
replies_held b =
    length b.replies + count_by (λ (f : Flying). is_reply f.message) b.in_flight + count_by (λ (n : Notice). is_reply n.message) b.notices

-- whether the record is of this request, and its reply has not come
abbrev pub waits_for : Serial → Awaited → Bool
waits_for serial a = same_serial serial a.serial && not a.arrived

-- whether the reply to the request that the message answers is still waited for
abbrev pub is_waited_for : List Awaited → Option Serial → Bool
is_waited_for awaited None = false
is_waited_for awaited (Some request) = list_any (waits_for request) awaited

abbrev pub verdict_of : Option Cause → Verdict
verdict_of None = Verdicts.Accepted
verdict_of (Some cause) = Verdicts.Refused cause

-- the verdict of an endpoint on a message that arrives
abbrev pub verdict : State → Message → Verdict
verdict s m =
    verdict_of (first_holding (
    (s.head.closed, NoEndpoint)
    ∷ (not (is_resident s.head.place), NotResident)
    ∷ (not (matches s.body.tag m.tag), BadTag)
    ∷ (is_request m && is_none (entry_at s.body.handlers m.handler), BadHandler)
    ∷ (is_request m && nat_le 16 (count_by is_request s.body.received), QueueFull)
    ∷ (is_reply m && not (is_waited_for s.body.awaited m.about), NoRequest)
    ∷ []))

abbrev pub is_arrived : Awaited → Bool
is_arrived a = a.arrived

-- the lists of an endpoint are within their bounds
pub record IsWithinBounds (b : Body) : Type 0 where
  pub requests : requests_held b ≤ 16
  pub replies : replies_held b ≤ 16
  pub awaited : length b.awaited ≤ 32
  pub received : count_by is_request b.received ≤ 16
  pub answers : count_by is_reply b.received ≤ count_by is_arrived b.awaited
