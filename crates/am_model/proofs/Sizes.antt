-- The lists of an endpoint stay within their bounds.
use Rattle.std.specs.Prelude.{nat_le, not, is_none}
use Rattle.std.proofs.Common.{◌≡◌, ℕ, suc, ◌+◌, ◌≤◌, ◌<◌, Bool, true, false, cond, ◌&&◌, ◌==◌, List, [], ◌∷◌, ◌++◌, length, drop, Option, Some, None, refl, ap}
use Rattle.std.proofs.Common.{◌∙◌, subst, arith, leb-false, if◌then◌else◌}
use Rattle.std.specs.List.{count_by, find}
use Rattle.std.proofs.lemmas.List.Sums.{sum_by_push, sum_by-cons}
use Rattle.am_names.specs.declared.EndpointId.{EndpointId}
use Rattle.am_names.specs.declared.Message.{Message}
use Rattle.am_names.specs.declared.Serial.{Serial}
use Rattle.am_office_entries.specs.declared.Call.{Call}
use Rattle.am_office_entries.specs.declared.Call.TheVariants as Calls
use Rattle.am_office_entries.specs.declared.Outcome.{Outcome}
use Rattle.am_office_entries.specs.declared.Outcome.TheVariants as Out
use Rattle.am_names.specs.declared.Words.{Words}
use Rattle.am_office_entries.specs.declared.Refusal.{Refusal}
use Rattle.am_office_entries.specs.declared.HandlerKind.{HandlerKind}
use Rattle.am_office_entries.specs.declared.HandlerKind.TheVariants.{Note, Echo, Add}
use Rattle.am_names.specs.Names.{same_serial, is_reply, is_request}
use Rattle.am_model.specs.Choice.{without_first, first_holding}
use Rattle.am_model.specs.declared.Notice.{Notice}
use Rattle.am_model.specs.Endpoint.{State, replies_held, Body, IsWithinBounds, is_arrived, requests_held, waits_for, entry_at}
use Rattle.am_model.specs.Calls.{outcome_of_call, poll, poll_received, poll_requests, request_refusal, unless, new_request, request_message, has_no_credit}
use Rattle.am_model.specs.Calls.{answer, handler_run}
use Rattle.am_model.specs.Changes.{called, appended, without_record, is_of, without_waiting, answer_ran, request_ran, request_accepted}
use Rattle.am_office_entries.specs.Entries.{run_by, accepted_by}
use Rattle.std.proofs.lemmas.List.{length_push}
use Rattle.am_office_entries.specs.declared.Refusal.TheVariants as No
use Rattle.am_model.specs.declared.Awaited.{Awaited}
use Rattle.am_model.specs.declared.Mapping.{Mapping}
use Rattle.am_model.specs.declared.Queued.{Queued}
use Rattle.am_model.proofs.Received.{bit, find_counts}

pub count_le : {X : Type 0} (p t : X → Bool) (xs : List X) → (count_by p (without_first t xs) ≤ count_by p xs) ×
    (count_by p xs ≤ count_by p (without_first t xs) + 1) × (length (without_first t xs) ≤ length xs)
count_le p t [] = (omega arith, omega arith, omega arith)
count_le p t (x ∷ xs) = by_test p t x xs (t x) (p x) (count_le p t xs)
  where
    by_test : {X : Type 0} (p t : X → Bool) (x : X) (xs : List X) (b c : Bool) →
        (count_by p (without_first t xs) ≤ count_by p xs) × (count_by p xs ≤ count_by p (without_first t xs) + 1) × (length (without_first t xs) ≤ length xs) →
        (count_by p (cond b xs (x ∷ without_first t xs)) ≤ count_by p (x ∷ xs)) × (count_by p (x ∷ xs) ≤ count_by p (cond b xs (x ∷ without_first t xs)) + 1) ×
        (length (cond b xs (x ∷ without_first t xs)) ≤ suc (length xs))
    by_test p t x xs true c more = (
      omega (arith, sum_by-cons (λ y. cond (p y) 1 0) x xs),
      omega (arith, sum_by-cons (λ y. cond (p y) 1 0) x xs, at_most_one (p x)),
      omega arith,
    )
      where
        at_most_one : (b : Bool) → bit b ≤ 1
        at_most_one true = omega arith
        at_most_one false = omega arith
    by_test p t x xs false c more = (
      omega (arith, more.0, sum_by-cons (λ y. cond (p y) 1 0) x xs, sum_by-cons (λ y. cond (p y) 1 0) x (without_first t xs)),
      omega (arith, more.1, sum_by-cons (λ y. cond (p y) 1 0) x xs, sum_by-cons (λ y. cond (p y) 1 0) x (without_first t xs)),
      omega (arith, more.2),
    )

-- a waiting record is not arrived
pub waiting_kept : (s : Serial) (xs : List Awaited) → count_by is_arrived (without_waiting s xs) ≡ count_by is_arrived xs
waiting_kept s [] = refl
waiting_kept s (a ∷ xs) = by_test (same_serial s a.serial) a.arrived refl (waiting_kept s xs)
  where
    by_test : (b c : Bool) → a.arrived ≡ c → count_by is_arrived (without_waiting s xs) ≡ count_by is_arrived xs →
        count_by is_arrived (cond (b && not c) xs (a ∷ without_waiting s xs)) ≡ count_by is_arrived (a ∷ xs)
    by_test true false is more = omega (arith, sum_by-cons (λ (y : Awaited). cond y.arrived 1 0) a xs, ap bit is)
    by_test true true is more = omega (
      arith,
      more,
      sum_by-cons (λ (y : Awaited). cond y.arrived 1 0) a xs,
      sum_by-cons (λ (y : Awaited). cond y.arrived 1 0) a (without_waiting s xs),
    )
    by_test false c is more = omega (
      arith,
      more,
      sum_by-cons (λ (y : Awaited). cond y.arrived 1 0) a xs,
      sum_by-cons (λ (y : Awaited). cond y.arrived 1 0) a (without_waiting s xs),
    )

found_passes : (t : Message → Bool) (xs : List Message) (m : Message) → find t xs ≡ Some m → t m ≡ true
found_passes t [] m e = absurd (cc)
found_passes t (x ∷ xs) m e = by_test (t x) refl e (found_passes t xs m)
  where
    by_test : (b : Bool) → t x ≡ b → cond b (Some x) (find t xs) ≡ Some m → (find t xs ≡ Some m → t m ≡ true) → t m ≡ true
    by_test true is h more = let same : x ≡ m = cc in subst (λ (w : Message). t w ≡ true) same is
    by_test false is h more = more h

settled_le : (about : Option Serial) (xs : List Awaited) → (count_by is_arrived xs ≤ count_by is_arrived (without_record about xs) + 1) ×
    (length (without_record about xs) ≤ length xs)
settled_le None xs = (omega arith, omega arith)
settled_le (Some s) xs = let l = count_le is_arrived (is_of s) xs in (l.1, l.2)

pub length_appended : (b : Bool) (m : Message) (used : ℕ) (xs : List Queued) → length (appended b m used xs) ≡ length xs + bit b
length_appended true m used xs = length_push xs (record { message = m; bounces = used })
length_appended false m used xs = omega arith

drop_le : {X : Type 0} (p : X → Bool) (xs : List X) → count_by p (drop 1 xs) ≤ count_by p xs
drop_le p [] = omega arith
drop_le p (x ∷ xs) = omega (arith, sum_by-cons (λ y. cond (p y) 1 0) x xs)

-- where no condition of a request fails, there is room for it
request_room : (pool : Option ℕ) (s : State) (index : ℕ) → request_refusal pool s index ≡ None → (length s.body.awaited < 32) × (requests_held s.body < 16)
request_room pool s index h =
    by_tests s.head.closed (s.body.tag.0 == 0) (nat_le 16 index) (is_none (entry_at s.body.mapped index))
    (has_no_credit pool s.body index (entry_at s.body.mapped index)) (nat_le 32 (length s.body.awaited)) (nat_le 16 (requests_held s.body)) refl refl h
  where
    by_tests : (a b c d e f g : Bool) → nat_le 32 (length s.body.awaited) ≡ f → nat_le 16 (requests_held s.body) ≡ g →
        first_holding ((a, No.Closed) ∷ (b, No.OwnTagNone) ∷ (c, No.BadIndex) ∷ (d, No.NotMapped) ∷ (e, No.NoCredit) ∷ (f, No.TableFull) ∷ (
          g,
          No.SendFull,
        ) ∷ []) ≡ None → (length s.body.awaited < 32) × (requests_held s.body < 16)
    by_tests true b c d e f g table send h = absurd (cc)
    by_tests false true c d e f g table send h = absurd (cc)
    by_tests false false true d e f g table send h = absurd (cc)
    by_tests false false false true e f g table send h = absurd (cc)
    by_tests false false false false true f g table send h = absurd (cc)
    by_tests false false false false false true g table send h = absurd (cc)
    by_tests false false false false false false true table send h = absurd (cc)
    by_tests false false false false false false false table send h = (leb-false 32 (length s.body.awaited) table, leb-false 16 (requests_held s.body) send)

-- a request that is accepted
within_accepted : (index : ℕ) (m : Message) (s : State) → is_request m ≡ true → length s.body.awaited < 32 → requests_held s.body < 16 → IsWithinBounds s.body →
    IsWithinBounds (request_accepted index m s).body
within_accepted index m s is table send w =
    let q : length (appended (is_request m) m 0 s.body.requests) ≡ length s.body.requests + 1 = length_appended (is_request m) m 0 s.body.requests
    ∙ ap (λ (b : Bool). length s.body.requests + bit b) is in
    let r : length (appended (is_reply m) m 0 s.body.replies) ≡ length s.body.replies = length_appended (is_reply m) m 0 s.body.replies
    ∙ ap (λ (b : Bool). length s.body.replies + bit (if b then false else true)) is ∙ omega arith in
    let a : count_by is_arrived (s.body.awaited ++ record { index = index; serial = m.serial; arrived = false } ∷ []) ≡ count_by is_arrived s.body.awaited + 0 =
    sum_by_push (λ (y : Awaited). cond y.arrived 1 0) s.body.awaited (record { index = index; serial = m.serial; arrived = false }) in
    record {
      requests = omega (arith, send, q);
      replies = omega (arith, w.replies, r);
      awaited = omega (arith, table, length_push s.body.awaited (record { index = index; serial = m.serial; arrived = false }));
      received = w.received;
      answers = omega (arith, w.answers, a);
    }

-- a reply or an empty reply that runs
within_answer : (m : Message) (handler : Option ℕ) (b : Body) → find is_reply b.received ≡ Some m → IsWithinBounds b → IsWithinBounds (answer_ran m handler b)
within_answer m handler b found w =
    let passes' : is_reply m ≡ true = found_passes is_reply b.received m found in
    let fewer = find_counts is_reply is_reply b.received m found in
    let one : bit (is_reply m) ≡ 1 = ap bit passes' in
    let record_left = settled_le m.about b.awaited in
    record {
      requests = w.requests;
      replies = w.replies;
      awaited = omega (arith, w.awaited, record_left.1);
      received = omega (arith, w.received, (count_le is_request is_reply b.received).0);
      answers = omega (arith, w.answers, fewer, one, record_left.0);
    }

-- a request that runs, whose answer is queued
within_request : (m : Message) (ms : List Message) (handler : Option ℕ) (reply : Message) (b : Body) → b.received ≡ m ∷ ms → find is_reply b.received ≡ None →
    is_request reply ≡ false → replies_held b < 16 → IsWithinBounds b → IsWithinBounds (request_ran m handler reply b)
within_request m ms handler reply b at none kind room w =
    let q : length (appended (is_request reply) reply 0 b.requests) ≡ length b.requests = length_appended (is_request reply) reply 0 b.requests
    ∙ ap (λ (t : Bool). length b.requests + bit t) kind ∙ omega arith in
    let r : length (appended (is_reply reply) reply 0 b.replies) ≡ length b.replies + 1 = length_appended (is_reply reply) reply 0 b.replies
    ∙ ap (λ (t : Bool). length b.replies + bit (if t then false else true)) kind in
    record {
      requests = omega (arith, w.requests, q);
      replies = omega (arith, room, r);
      awaited = w.awaited;
      received = omega (arith, w.received, drop_le is_request b.received);
      answers = omega (arith, w.answers, drop_le is_reply b.received);
    }

-- the front of the notices goes
within_notice : (b : Body) → IsWithinBounds b → IsWithinBounds (record b { notices = drop 1 b.notices })
within_notice b w =
    record {
      requests = omega (arith, w.requests, drop_le (λ (n : Notice). is_request n.message) b.notices);
      replies = omega (arith, w.replies, drop_le (λ (n : Notice). is_reply n.message) b.notices);
      awaited = w.awaited;
      received = w.received;
      answers = w.answers;
    }

-- a call that is no request and no poll
within_other : (s : State) (c : Call) (o : Outcome) → accepted_by c o ≡ None → run_by c o ≡ None → IsWithinBounds s.body → IsWithinBounds (called s c o).body
within_other s (Calls.Request index handler words) (Out.Requested m) e r w = absurd (cc)
within_other s Calls.Poll (Out.Zero serial why) e r w = within_notice s.body w
within_other s Calls.Poll (Out.Ran handler m None) e r w = absurd (cc)
within_other s Calls.Poll (Out.Ran handler m (Some reply)) e r w = absurd (cc)
within_other s (Calls.SetTag tag) Out.Done e r w = record {
  requests = w.requests;
  replies = w.replies;
  awaited = w.awaited;
  received = w.received;
  answers = w.answers;
}
within_other s (Calls.Map index name tag credits) Out.Done e r w = record {
  requests = w.requests;
  replies = w.replies;
  awaited = w.awaited;
  received = w.received;
  answers = w.answers;
}
within_other s (Calls.Unmap index) Out.Done e r w = record {
  requests = w.requests;
  replies = w.replies;
  awaited = w.awaited;
  received = w.received;
  answers = w.answers;
}
within_other s (Calls.SetHandler index kind) Out.Done e r w = record {
  requests = w.requests;
  replies = w.replies;
  awaited = w.awaited;
  received = w.received;
  answers = w.answers;
}
within_other s (Calls.GiveUp serial) Out.Done e r w =
    record {
      requests = w.requests;
      replies = w.replies;
      awaited = omega (arith, w.awaited, (count_le is_arrived (waits_for serial) s.body.awaited).2);
      received = w.received;
      answers = omega (arith, w.answers, waiting_kept serial s.body.awaited);
    }
within_other s Calls.Close Out.Done e r w = w
within_other s c o e r w = w

within_requested : (pool : Option ℕ) (e : EndpointId) (s : State) (index handler : ℕ) (words : Words) (r : Option Refusal) (mapping : Option Mapping) →
    request_refusal pool s index ≡ r → IsWithinBounds s.body →
    IsWithinBounds (called s (Calls.Request index handler words) (unless r (new_request e s mapping handler words))).body
within_requested pool e s index handler words (Some refusal) mapping is w = w
within_requested pool e s index handler words None None is w = w
within_requested pool e s index handler words None (Some mapping) is w = let room = request_room pool s index is in
    within_accepted index (request_message e s mapping handler words) s refl room.0 room.1 w

pub answer_kind : (e : EndpointId) (s : State) (m : Message) (kind : Option HandlerKind) → is_request (answer e s m kind) ≡ false
answer_kind e s m (Some (Echo to)) = refl
answer_kind e s m (Some (Add to)) = refl
answer_kind e s m (Some Note) = refl
answer_kind e s m None = refl

within_polled : (e : EndpointId) (s : State) → IsWithinBounds s.body → (notices : List Notice) → IsWithinBounds (called s Calls.Poll (poll e s notices)).body
within_polled e s w (notice ∷ notices) = within_notice s.body w
within_polled e s w [] = by_found (find is_reply s.body.received) refl
  where
    by_full : (m : Message) (ms : List Message) (full : Bool) → nat_le 16 (replies_held s.body) ≡ full → s.body.received ≡ m ∷ ms →
        find is_reply s.body.received ≡ None → IsWithinBounds
        (called s Calls.Poll (if full then Out.Blocked else Out.Ran (Some m.handler) m (Some (answer e s m (entry_at s.body.handlers m.handler))))).body
    by_full m ms true is at none = w
    by_full m ms false is at none = within_request m ms (Some m.handler) (answer e s m (entry_at s.body.handlers m.handler)) s.body at none
        (answer_kind e s m (entry_at s.body.handlers m.handler)) (leb-false 16 (replies_held s.body) is) w

    by_list : (xs : List Message) → s.body.received ≡ xs → find is_reply s.body.received ≡ None →
        IsWithinBounds (called s Calls.Poll (poll_requests e s xs)).body
    by_list [] at none = w
    by_list (m ∷ ms) at none = by_full m ms (nat_le 16 (replies_held s.body)) refl at none

    by_found : (f : Option Message) → find is_reply s.body.received ≡ f → IsWithinBounds (called s Calls.Poll (poll_received e s f)).body
    by_found (Some m) is = within_answer m (handler_run s m) s.body is w
    by_found None is = by_list s.body.received refl is

-- a call keeps the bounds
pub within_called : (pool : Option ℕ) (e : EndpointId) (s : State) (c : Call) → IsWithinBounds s.body →
    IsWithinBounds (called s c (outcome_of_call pool e s c)).body
within_called pool e s (Calls.Request index handler words) w =
    within_requested pool e s index handler words (request_refusal pool s index) (entry_at s.body.mapped index) refl w
within_called pool e s Calls.Poll w = within_polled e s w s.body.notices
within_called pool e s c w = within_other s c (outcome_of_call pool e s c) refl refl w

-- requests and answers are all there is
pub requests_and_answers : {X : Type 0} (m : X → Message) (xs : List X) → count_by (λ x. is_request (m x)) xs + count_by (λ x. is_reply (m x)) xs ≡ length xs
requests_and_answers m [] = refl
requests_and_answers m (x ∷ xs) = omega (
  arith,
  requests_and_answers m xs,
  sum_by-cons (λ y. cond (is_request (m y)) 1 0) x xs,
  sum_by-cons (λ y. cond (is_reply (m y)) 1 0) x xs,
  one (is_request (m x)),
)
  where
    one : (b : Bool) → cond b 1 0 + cond (if b then false else true) 1 0 ≡ 1
    one true = refl
    one false = refl
