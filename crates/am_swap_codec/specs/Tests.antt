-- The tests by which the code tells whether a body that was read is valid.
use Rattle.std.specs.Prelude.{ℕ, ◌+◌, Bool, false, ◌==◌, ◌&&◌, ◌||◌, not, nat_le, Option, Some, None, is_none, List, length, count_by}
use Rattle.std.specs.List.{list_all, list_any}
use Rattle.am_names.specs.declared.EndpointId.{EndpointId}
use Rattle.am_names.specs.declared.Serial.{Serial}
use Rattle.am_names.specs.declared.Message.{Message}
use Rattle.am_names.specs.Names.{is_request, is_reply}
use Rattle.am_model.specs.declared.Awaited.{Awaited}
use Rattle.am_model.specs.Endpoint.{Body, entry_at, is_arrived, requests_held, replies_held}
use Rattle.am_model.specs.Calls.{excess, shares}
use Rattle.am_model.specs.Valid.{answers, has_arrived, is_handler_in_range, is_mapping_in_range, is_own_answer, is_own_notice, is_own_request, is_received_here}
use Rattle.am_model.specs.Valid.{is_record, rise}

-- 16 indexes and 16 handlers, each in range, and no handler 0
abbrev pub tables_pass : Option ℕ → Body → Bool
tables_pass pool b =
    (length b.mapped == 16) && (list_all (is_mapping_in_range pool) b.mapped && ((length b.handlers == 16) && (is_none (entry_at b.handlers 0) && list_all is_handler_in_range b.handlers)))

-- the records are within the credits, or within the shares and the pool
abbrev pub is_within_pool : Option ℕ → Body → Bool
is_within_pool None b = excess b == 0
is_within_pool (Some pool) b = nat_le (excess b) pool && nat_le (shares b + pool) 32

-- at most 32 records, in order, each of a mapped index, and within the credits
abbrev pub records_pass : EndpointId → Option ℕ → Body → Bool
records_pass e pool b =
    nat_le (length b.awaited) 32 && (rise 0 b.accepted b.awaited && (list_all (is_record e b.mapped) b.awaited && is_within_pool pool b))

-- the endpoint's own messages, which hold at most 16 slots for requests and 16 for replies
abbrev pub queues_pass : EndpointId → Body → Bool
queues_pass e b =
    list_all (is_own_request e b.accepted) b.requests && (list_all (is_own_answer e b.accepted) b.replies && (list_all (is_own_notice e b.accepted) b.notices && (nat_le (requests_held b) 16 && nat_le (replies_held b) 16)))

-- whether the record of the request that is answered has arrived
abbrev pub is_expected : List Awaited → Option Serial → Bool
is_expected awaited None = false
is_expected awaited (Some request) = list_any (has_arrived request) awaited

-- a received answer is expected
abbrev pub answers_expected : List Awaited → Message → Bool
answers_expected awaited m = not (is_reply m) || is_expected awaited m.about

-- a record that has arrived has one answer
abbrev pub is_answered_once : List Message → Awaited → Bool
is_answered_once received a = not a.arrived || (count_by (answers a.serial) received == 1)

-- the received messages: at most 16 requests, and just the answers that the records say
abbrev pub arrivals_pass : EndpointId → Body → Bool
arrivals_pass e b =
    list_all (is_received_here e) b.received && (nat_le (count_by is_request b.received) 16 && (list_all (answers_expected b.awaited) b.received && (list_all (is_answered_once b.received) b.awaited && (count_by is_reply b.received == count_by is_arrived b.awaited))))

-- the body is valid for the endpoint e with this pool or none
abbrev pub passes : EndpointId → Option ℕ → Body → Bool
passes e pool b = tables_pass pool b && (records_pass e pool b && (queues_pass e b && arrivals_pass e b))
