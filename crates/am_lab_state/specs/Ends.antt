-- The lines of an endpoint in the text of a state: what the endpoint holds, one fact a line.
use Rattle.std.specs.Prelude.{ℕ, Bool, true, false, Option, Some, None, List, [], ◌∷◌, ◌++◌, codes}
use Rattle.std.specs.Fmt.{decimal}
use Rattle.std.specs.List.{flat_map, range_with_len}
use Rattle.am_names.specs.declared.EndpointId.{EndpointId}
use Rattle.am_names.specs.declared.NodeId.{NodeId}
use Rattle.am_names.specs.declared.Tag.{Tag}
use Rattle.am_office_entries.specs.declared.Entry.{Entry}
use Rattle.am_office_entries.specs.declared.HandlerKind.{HandlerKind}
use Rattle.am_office_entries.specs.declared.HandlerKind.TheVariants.{Note, Echo, Add}
use Rattle.am_model.specs.declared.Awaited.{Awaited}
use Rattle.am_model.specs.declared.Flying.{Flying}
use Rattle.am_model.specs.declared.Mapping.{Mapping}
use Rattle.am_model.specs.declared.Notice.{Notice}
use Rattle.am_model.specs.declared.Queued.{Queued}
use Rattle.am_model.specs.Calls.{records_at}
use Rattle.am_model.specs.Endpoint.{Body, State, entry_at, is_on_disk}
use Rattle.am_model.specs.History.{state_of}
use Rattle.am_model.specs.Layout.{Layout, home}
use Rattle.am_office_text.specs.Words.{Word, kind, serial, tag, why}
use Rattle.am_lab_arrivals.specs.Arrivals.{end_line, received_line}
use Rattle.am_lab_reasons.specs.Due.Found.{head_line}

-- ---- its numbers

abbrev pub tag_line : EndpointId → Tag → List ℕ
tag_line e t = end_line e (codes "tag" ∷ tag t ∷ [])

abbrev pub accepted_line : EndpointId → ℕ → List ℕ
accepted_line e count = end_line e (codes "accepted" ∷ decimal count ∷ [])

abbrev pub sum_line : EndpointId → ℕ → List ℕ
sum_line e sum = end_line e (codes "sum" ∷ decimal sum ∷ [])

-- the credits that its indexes share, if they share any
abbrev pub pool_line : EndpointId → Option ℕ → List ℕ
pool_line e None = []
pool_line e (Some pool) = end_line e (codes "pool" ∷ decimal pool ∷ [])

-- its tag, how many messages it accepted, the sum of its handlers that add, and its pool
abbrev pub number_lines : EndpointId → Option ℕ → Body → List ℕ
number_lines e pool b = tag_line e b.tag ++ accepted_line e b.accepted ++ sum_line e b.sum ++ pool_line e pool

-- ---- its tables

-- what the credits of an index are called: without a pool its own credits, with one its least share
abbrev pub credits_word : Option ℕ → Word
credits_word None = codes "credits"
credits_word (Some pool) = codes "share"

-- an index that is mapped: where its requests go, under which tag, with how many credits, and how many of its requests have a record
abbrev pub mapping_line : EndpointId → Option ℕ → ℕ → Mapping → ℕ → List ℕ
mapping_line e pool index mapping out =
    end_line e (
    codes "map"
    ∷ decimal index
    ∷ codes "to"
    ∷ decimal mapping.name.0
    ∷ codes "tag"
    ∷ tag mapping.tag
    ∷ credits_word pool
    ∷ decimal mapping.credits
    ∷ codes "out"
    ∷ decimal out
    ∷ [])

abbrev pub mapping_if : EndpointId → Option ℕ → ℕ → ℕ → Option Mapping → List ℕ
mapping_if e pool index out None = []
mapping_if e pool index out (Some mapping) = mapping_line e pool index mapping out

-- an index, if it is mapped
abbrev pub mapping_at : EndpointId → Option ℕ → Body → ℕ → List ℕ
mapping_at e pool b index = mapping_if e pool index (records_at b index) (entry_at b.mapped index)

abbrev pub kind_words : HandlerKind → List Word
kind_words Note = codes "note" ∷ []
kind_words (Echo to) = codes "echo" ∷ decimal to ∷ []
kind_words (Add to) = codes "add" ∷ decimal to ∷ []

abbrev pub handler_line : EndpointId → ℕ → List Word → List ℕ
handler_line e index words = end_line e (codes "handler" ∷ decimal index ∷ words)

abbrev pub handler_if : EndpointId → ℕ → Option HandlerKind → List ℕ
handler_if e index None = []
handler_if e index (Some kind) = handler_line e index (kind_words kind)

-- a handler, if it is set
abbrev pub handler_at : EndpointId → Body → ℕ → List ℕ
handler_at e b index = handler_if e index (entry_at b.handlers index)

-- whether the reply to a request has arrived, and is not run, or is waited for
abbrev pub arrived_word : Bool → Word
arrived_word true = codes "arrived"
arrived_word false = codes "waits"

-- the record of a request whose reply did not run
abbrev pub record_line : EndpointId → Awaited → List ℕ
record_line e a = end_line e (codes "record" ∷ serial a.serial ∷ codes "index" ∷ decimal a.index ∷ arrived_word a.arrived ∷ [])

-- its mapped indexes, its handlers that are set, each by number, and its records in order of acceptance
abbrev pub table_lines : EndpointId → Option ℕ → Body → List ℕ
table_lines e pool b =
    flat_map (mapping_at e pool b) (range_with_len 0 16) ++ flat_map (handler_at e b) (range_with_len 0 16) ++ flat_map (record_line e) b.awaited

-- ---- its messages

-- a message that is to be sent
abbrev pub queued_line : EndpointId → Queued → List ℕ
queued_line e q = end_line e (codes "queued" ∷ kind q.message.kind ∷ serial q.message.serial ∷ codes "bounces" ∷ decimal q.bounces ∷ [])

-- whether a reply to a message in flight was put
abbrev pub answered_word : Bool → Word
answered_word true = codes "answered"
answered_word false = codes "unanswered"

-- a message in flight
abbrev pub flying_line : EndpointId → Flying → List ℕ
flying_line e f =
    end_line e (
    codes "in-flight"
    ∷ kind f.message.kind
    ∷ serial f.message.serial
    ∷ codes "bounces"
    ∷ decimal f.bounces
    ∷ answered_word f.answered
    ∷ [])

-- a message that came back and of which its sender is not yet told
abbrev pub notice_line : EndpointId → Notice → List ℕ
notice_line e n =
    end_line e (codes "notice" ∷ kind n.message.kind ∷ serial n.message.serial ∷ codes "bounces" ∷ decimal n.bounces ∷ why n.why ∷ [])

-- its replies and then its requests that are to be sent, its messages in flight, those that came back, and those received, each list
-- from its front on
abbrev pub message_lines : EndpointId → Body → List ℕ
message_lines e b =
    flat_map (queued_line e) b.replies
    ++ flat_map (queued_line e) b.requests
    ++ flat_map (flying_line e) b.in_flight
    ++ flat_map (notice_line e) b.notices
    ++ flat_map (received_line e) b.received

-- ---- all of it

abbrev pub body_lines : EndpointId → Option ℕ → Body → List ℕ
body_lines e pool b = number_lines e pool b ++ table_lines e pool b ++ message_lines e b

-- the body of an endpoint, which lies in memory: of one on disk nothing more is told
abbrev pub body_in_memory : Bool → EndpointId → Option ℕ → Body → List ℕ
body_in_memory true e pool b = []
body_in_memory false e pool b = body_lines e pool b

abbrev pub end_lines_by : EndpointId → Option ℕ → Option NodeId → State → List ℕ
end_lines_by e pool None s = []
end_lines_by e pool (Some node) s = head_line e node s.head ++ body_in_memory (is_on_disk s.head.place) e pool s.body

-- an endpoint as it stands after these entries
abbrev pub end_lines : Layout → List Entry → EndpointId → List ℕ
end_lines layout past e = end_lines_by e layout.pool (home layout e) (state_of layout past e)
