-- What comes of a call at an open endpoint, by its body alone.
use Rattle.std.proofs.Common.{◌≡◌, ℕ, ◌<◌, Bool, true, false, cond, ◌&&◌, ◌||◌, List, [], ◌∷◌, Option, Some, None, refl, sym, ap, ◌∙◌, arith, if◌then◌else◌}
use Rattle.std.specs.Prelude.{nat_le, nat_lt, find}
use Rattle.std.specs.List.{list_any}
use Rattle.std.proofs.lemmas.Bool.{and_parts, leb-true}
use Rattle.am_names.specs.Names.{is_reply, same_serial}
use Rattle.am_names.specs.declared.EndpointId.{EndpointId}
use Rattle.am_names.specs.declared.Message.{Message}
use Rattle.am_names.specs.declared.Serial.{Serial}
use Rattle.am_names.specs.declared.Words.{Words}
use Rattle.am_office_entries.specs.declared.HandlerKind.{HandlerKind}
use Rattle.am_office_entries.specs.declared.HandlerKind.TheVariants.{Add, Echo, Note}
use Rattle.am_office_entries.specs.declared.Call.TheVariants as Calls
use Rattle.am_office_entries.specs.declared.Outcome.{Outcome}
use Rattle.am_office_entries.specs.declared.Outcome.TheVariants as Out
use Rattle.am_office_entries.specs.declared.Refusal.{Refusal}
use Rattle.am_office_entries.specs.declared.Refusal.TheVariants as No
use Rattle.am_model.specs.declared.Awaited.{Awaited}
use Rattle.am_model.specs.declared.Head.{Head}
use Rattle.am_model.specs.declared.Mapping.{Mapping}
use Rattle.am_model.specs.declared.Notice.{Notice}
use Rattle.am_model.specs.Endpoint.{Body, State, entry_at, replies_held}
use Rattle.am_model.specs.Calls.{answer, handler_refusal, map_refusal, new_request, new_serial, outcome_of_call, poll, poll_received}
use Rattle.am_model.specs.Calls.{poll_requests, request_refusal, unless, unmap_refusal}
use Rattle.am_model.specs.Changes.{called, is_of}
use Rattle.am_model.specs.Order.{IsInOrder}
use Rattle.am_model.specs.Valid.{rise}
use Rattle.am_model.proofs.Names.{same_serial-is}
use Rattle.am_endpoint_body.specs.Views.{on_host}

-- the next message has no record yet

pub unknown_past : (below last : ℕ) (r : Serial) (xs : List Awaited) → last < r.count → rise below last xs ≡ true → list_any (is_of r) xs ≡ false
unknown_past below last r [] lt h = refl
unknown_past below last r (a ∷ xs) lt h =
    let parts = and_parts (nat_lt below a.serial.count) (nat_le a.serial.count last && rise a.serial.count last xs) h in
    let more = and_parts (nat_le a.serial.count last) (rise a.serial.count last xs) parts.1 in
    ap (λ t. t || list_any (is_of r) xs) (other r a.serial (omega (arith, lt, leb-true a.serial.count last more.0)))
    ∙ unknown_past a.serial.count last r xs lt more.1
  where
    other : (s t : Serial) → t.count < s.count → same_serial s t ≡ false
    other s t lt = by_test (same_serial s t) refl
      where
        by_test : (b : Bool) → same_serial s t ≡ b → b ≡ false
        by_test true is = absurd (never (ap (λ (w : Serial). w.count) (same_serial-is s t is)))
          where
            never : s.count ≡ t.count → ⊥
            never e = omega (arith, lt, e)
        by_test false is = refl

pub unknown_next : (pool : Option ℕ) (e : EndpointId) (s : State) → IsInOrder pool e s → list_any (is_of (new_serial e s)) s.body.awaited ≡ false
unknown_next pool e s order = unknown_past 0 s.body.accepted (new_serial e s) s.body.awaited (omega arith) order.valid.counts

-- what is refused, where the endpoint is not closed

pub open_request : (pool : Option ℕ) (s : State) (index : ℕ) → s.head.closed ≡ false →
    request_refusal pool (on_host s.body) index ≡ request_refusal pool s index
open_request pool s index unclosed = ap (λ c. cond c (Some No.Closed) (request_refusal pool (on_host s.body) index)) (sym unclosed)

pub open_map : (pool : Option ℕ) (s : State) (index share : ℕ) → s.head.closed ≡ false →
    map_refusal pool (on_host s.body) index share ≡ map_refusal pool s index share
open_map pool s index share unclosed = ap (λ c. cond c (Some No.Closed) (map_refusal pool (on_host s.body) index share)) (sym unclosed)

pub open_unmap : (s : State) (index : ℕ) → s.head.closed ≡ false → unmap_refusal (on_host s.body) index ≡ unmap_refusal s index
open_unmap s index unclosed = ap (λ c. cond c (Some No.Closed) (unmap_refusal (on_host s.body) index)) (sym unclosed)

pub open_handler : (s : State) (index : ℕ) → s.head.closed ≡ false → handler_refusal (on_host s.body) index ≡ handler_refusal s index
open_handler s index unclosed = ap (λ c. cond c (Some No.Closed) (handler_refusal (on_host s.body) index)) (sym unclosed)

-- a request

new_request_same : (e : EndpointId) (s : State) (m : Option Mapping) (handler : ℕ) (words : Words) →
    new_request e (on_host s.body) m handler words ≡ new_request e s m handler words
new_request_same e s None handler words = refl
new_request_same e s (Some m) handler words = refl

pub request_made : (pool : Option ℕ) (e : EndpointId) (s : State) (index handler : ℕ) (words : Words) (m : Message) → s.head.closed ≡ false →
    None ≡ request_refusal pool (on_host s.body) index → new_request e (on_host s.body) (entry_at s.body.mapped index) handler words ≡ Out.Requested m →
    Out.Requested m ≡ outcome_of_call pool e s (Calls.Request index handler words)
request_made pool e s index handler words m unclosed none is =
    sym is
    ∙ new_request_same e s (entry_at s.body.mapped index) handler words
    ∙ ap (λ r. unless r (new_request e s (entry_at s.body.mapped index) handler words)) (none ∙ open_request pool s index unclosed)

pub request_refused : (pool : Option ℕ) (e : EndpointId) (s : State) (index handler : ℕ) (words : Words) (r : Refusal) → s.head.closed ≡ false →
    Some r ≡ request_refusal pool (on_host s.body) index → Out.Refused r ≡ outcome_of_call pool e s (Calls.Request index handler words)
request_refused pool e s index handler words r unclosed some =
    ap (λ w. unless w (new_request e s (entry_at s.body.mapped index) handler words)) (some ∙ open_request pool s index unclosed)

-- a poll

answer_same : (e : EndpointId) (s : State) (m : Message) (kind : Option HandlerKind) → answer e (on_host s.body) m kind ≡ answer e s m kind
answer_same e s m None = refl
answer_same e s m (Some Note) = refl
answer_same e s m (Some (Echo to)) = refl
answer_same e s m (Some (Add to)) = refl

requests_same : (e : EndpointId) (s : State) (ms : List Message) → poll_requests e (on_host s.body) ms ≡ poll_requests e s ms
requests_same e s [] = refl
requests_same e s (m ∷ ms) =
    ap (λ reply. if nat_le 16 (replies_held s.body) then Out.Blocked else Out.Ran (Some m.handler) m (Some reply))
    (answer_same e s m (entry_at s.body.handlers m.handler))

received_same : (e : EndpointId) (s : State) (found : Option Message) → poll_received e (on_host s.body) found ≡ poll_received e s found
received_same e s (Some m) = refl
received_same e s None = requests_same e s s.body.received

pub poll_same : (e : EndpointId) (s : State) (ns : List Notice) → poll e (on_host s.body) ns ≡ poll e s ns
poll_same e s (n ∷ ns) = refl
poll_same e s [] = received_same e s (find is_reply s.body.received)

pub polled : (h : Head) (b c : Body) (o : Outcome) → record {
  head = (called (record { head = h; body = c }) Calls.Poll o).head;
  body = (called (on_host b) Calls.Poll o).body;
} ≡ called (record { head = h; body = b }) Calls.Poll o
polled h b c (Out.Zero serial why) = refl
polled h b c (Out.Ran handler m None) = refl
polled h b c (Out.Ran handler m (Some reply)) = refl
polled h b c o = refl
