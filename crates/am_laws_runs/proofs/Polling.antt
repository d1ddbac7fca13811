-- A poll and a call leave no more work than they are to.
use Rattle.std.proofs.Common.{◌≡◌, ℕ, ◌+◌, ◌-◌, ◌≤◌, Bool, true, false, cond, List, [], ◌∷◌, length, Option, Some, None, refl, ap, ◌∙◌, arith, true≢false}
use Rattle.std.proofs.Common.{if◌then◌else◌}
use Rattle.std.specs.Prelude.{nat_le, sum_by, find, drop}
use Rattle.std.proofs.lemmas.List.Sums.{sum_by-cons}
use Rattle.am_model.proofs.Sizes.{answer_kind}
use Rattle.am_names.specs.declared.EndpointId.{EndpointId}
use Rattle.am_names.specs.declared.Message.{Message}
use Rattle.am_names.specs.declared.Words.{Words}
use Rattle.am_names.specs.Names.{is_request, is_reply}
use Rattle.am_office_entries.specs.declared.HandlerKind.{HandlerKind}
use Rattle.am_office_entries.specs.declared.Refusal.{Refusal}
use Rattle.am_office_entries.specs.declared.Call.{Call}
use Rattle.am_office_entries.specs.declared.Call.TheVariants as Calls
use Rattle.am_office_entries.specs.declared.Outcome.{Outcome}
use Rattle.am_office_entries.specs.declared.Outcome.TheVariants as Out
use Rattle.am_model.specs.declared.Mapping.{Mapping}
use Rattle.am_model.specs.declared.Notice.{Notice}
use Rattle.am_model.specs.Choice.{without_first}
use Rattle.am_model.specs.Endpoint.{State, Body, entry_at, replies_held}
use Rattle.am_model.specs.Calls.{outcome_of_call, unless, new_request as request_outcome, request_refusal, request_message, answer, poll, poll_received}
use Rattle.am_model.specs.Calls.{poll_requests}
use Rattle.am_model.specs.Changes.{called}
use Rattle.am_scenario_types.specs.Lists.{ScenarioLists}
use Rattle.am_laws_runs.specs.Turns.Work.{bindings, copy_of, request_copy, reply_copy, queued_work, received_work, new_reply, new_request}
use Rattle.am_laws_runs.proofs.EndStates.{body_work, appended_work}

-- ---- a request

fresh_request : (s : ScenarioLists) (m : Message) → is_request m ≡ true → queued_work s (record { message = m; bounces = 0 }) ≡ new_request s
fresh_request s m is =
    let none : s.bounces - 0 + 1 ≡ s.bounces + 1 = omega arith in
    ap (bindings s.tries (copy_of s m)) none ∙ ap (λ (b : Bool). bindings s.tries (if b then request_copy s else reply_copy) (s.bounces + 1)) is

fresh_reply : (s : ScenarioLists) (m : Message) → is_request m ≡ false → queued_work s (record { message = m; bounces = 0 }) ≡ new_reply s
fresh_reply s m is =
    let none : s.bounces - 0 + 1 ≡ s.bounces + 1 = omega arith in
    ap (bindings s.tries (copy_of s m)) none ∙ ap (λ (b : Bool). bindings s.tries (if b then request_copy s else reply_copy) (s.bounces + 1)) is

-- a request that is made is one message more at most
request_work : (s : ScenarioLists) (e : EndpointId) (st : State) (index handler : ℕ) (words : Words) (refusal : Option Refusal) (mapping : Option Mapping) →
    body_work s (called st (Calls.Request index handler words) (unless refusal (request_outcome e st mapping handler words))).body ≤ body_work s st.body +
    new_request s
request_work s e st index handler words (Some refusal) mapping = omega arith
request_work s e st index handler words None None = omega arith
request_work s e st index handler words None (Some mapping) =
    let m : Message = request_message e st mapping handler words in
    omega (arith, appended_work s m 0 st.body.requests st.body.replies true, fresh_request s m refl)

-- ---- calls that send nothing and run nothing

abbrev IsPlain : Call → Type 0
IsPlain (Calls.Request index handler words) = ⊥
IsPlain Calls.Poll = ⊥
IsPlain call = Unit {0}

plain_work : (s : ScenarioLists) (st : State) (c : Call) (o : Outcome) → IsPlain c → body_work s (called st c o).body ≡ body_work s st.body
plain_work s st (Calls.Request index handler words) o plain = absurd plain
plain_work s st Calls.Poll o plain = absurd plain
plain_work s st (Calls.SetTag tag) Out.Done plain = refl
plain_work s st (Calls.Map index name tag credits) Out.Done plain = refl
plain_work s st (Calls.Unmap index) Out.Done plain = refl
plain_work s st (Calls.SetHandler index kind) Out.Done plain = refl
plain_work s st (Calls.GiveUp serial) Out.Done plain = refl
plain_work s st Calls.Close Out.Done plain = refl
plain_work s st c o plain = refl

-- ---- a poll

-- what a poll makes of an endpoint: less work; or nothing, since there is nothing to poll, or no room for a reply
pub data Polled (s : ScenarioLists) (now next : Body) : Type 0 where
  Less : body_work s next + 1 ≤ body_work s now → Polled s now next
  Empty : body_work s next ≤ body_work s now → length now.notices ≡ 0 → length now.received ≡ 0 → Polled s now next
  Full : body_work s next ≤ body_work s now → length now.notices ≡ 0 → nat_le 16 (replies_held now) ≡ true → Polled s now next

first_less : {X : Type 0} (w : X → ℕ) (p : X → Bool) (xs : List X) (x : X) → find p xs ≡ Some x → sum_by w (without_first p xs) + w x ≡ sum_by w xs
first_less w p [] x e = absurd (cc)
first_less {X} w p (y ∷ ys) x e = by_test (p y) e (first_less w p ys x)
  where
    by_test : (b : Bool) → cond b (Some y) (find p ys) ≡ Some x → (find p ys ≡ Some x → sum_by w (without_first p ys) + w x ≡ sum_by w ys) →
        sum_by w (cond b ys (y ∷ without_first p ys)) + w x ≡ sum_by w (y ∷ ys)
    by_test true h later =
        let same : y ≡ x = cc in
        omega (arith, sum_by-cons w y ys, ap w same)
    by_test false h later = omega (arith, later h, sum_by-cons w y ys, sum_by-cons w y (without_first p ys))

received_least : (s : ScenarioLists) (m : Message) → 1 ≤ received_work s m
received_least s m = by_test (is_request m)
  where
    by_test : (b : Bool) → 1 ≤ (if b then 1 + new_reply s else 1)
    by_test true = omega arith
    by_test false = omega arith

first_not : (p : Message → Bool) (m : Message) (ms : List Message) → find p (m ∷ ms) ≡ None → p m ≡ false
first_not p m ms e = by_test (p m) e
  where
    by_test : (b : Bool) → cond b (Some m) (find p ms) ≡ None → b ≡ false
    by_test true h = absurd (cc)
    by_test false h = refl

no_answer : (b : Bool) → (if b then false else true) ≡ false → b ≡ true
no_answer true h = refl
no_answer false h = absurd (true≢false h)

pub poll_work : (s : ScenarioLists) (e : EndpointId) (st : State) → Polled s st.body (called st Calls.Poll (poll e st st.body.notices)).body
poll_work s e st = by_notices st.body.notices refl
  where
    ran : (m : Message) (ms : List Message) → st.body.received ≡ m ∷ ms → is_reply m ≡ false →
        body_work s (called st Calls.Poll (Out.Ran (Some m.handler) m (Some (answer e st m (entry_at st.body.handlers m.handler))))).body + 1 ≤ body_work s
        st.body
    ran m ms is none =
        let reply : Message = answer e st m (entry_at st.body.handlers m.handler) in
        let request : is_request m ≡ true = no_answer (is_request m) none in
        let runs : received_work s m ≡ 1 + new_reply s = ap (λ (b : Bool). if b then 1 + new_reply s else 1) request in
        let before : sum_by (received_work s) st.body.received ≡ sum_by (received_work s) (m ∷ ms) = ap (sum_by (received_work s)) is in
        let now : sum_by (received_work s) (drop 1 st.body.received) ≡ sum_by (received_work s) ms =
        ap (λ (xs : List Message). sum_by (received_work s) (drop 1 xs)) is in
        omega (
          arith,
          runs,
          before,
          now,
          sum_by-cons (received_work s) m ms,
          fresh_reply s reply (answer_kind e st m (entry_at st.body.handlers m.handler)),
          appended_work s reply 0 st.body.requests st.body.replies (is_request reply),
        )

    by_room : (m : Message) (ms : List Message) (b : Bool) → st.body.notices ≡ [] → st.body.received ≡ m ∷ ms → is_reply m ≡ false →
        nat_le 16 (replies_held st.body) ≡ b → Polled s st.body
        (called st Calls.Poll (if b then Out.Blocked else Out.Ran (Some m.handler) m (Some (answer e st m (entry_at st.body.handlers m.handler))))).body
    by_room m ms true quiet is none full = Full (omega arith) (ap length quiet) full
    by_room m ms false quiet is none full = Less (ran m ms is none)

    by_received : (ms : List Message) → st.body.notices ≡ [] → st.body.received ≡ ms → find is_reply ms ≡ None →
        Polled s st.body (called st Calls.Poll (poll_requests e st ms)).body
    by_received [] quiet is none = Empty (omega arith) (ap length quiet) (ap length is)
    by_received (m ∷ ms) quiet is none = by_room m ms (nat_le 16 (replies_held st.body)) quiet is (first_not is_reply m ms none) refl

    by_answer : (o : Option Message) → st.body.notices ≡ [] → find is_reply st.body.received ≡ o →
        Polled s st.body (called st Calls.Poll (poll_received e st o)).body
    by_answer (Some m) quiet is = Less (omega (arith, first_less (received_work s) is_reply st.body.received m is, received_least s m))
    by_answer None quiet is = by_received st.body.received quiet refl is

    by_notices : (ns : List Notice) → st.body.notices ≡ ns → Polled s st.body (called st Calls.Poll (poll e st ns)).body
    by_notices (n ∷ ns) is =
        let before : length st.body.notices ≡ length (n ∷ ns) = ap length is in
        let now : length (drop 1 st.body.notices) ≡ length ns = ap (λ (xs : List Notice). length (drop 1 xs)) is in
        Less (omega (arith, before, now))
    by_notices [] is = by_answer (find is_reply st.body.received) is refl

-- ---- any call

polled_most : (s : ScenarioLists) (now next : Body) → Polled s now next → body_work s next ≤ body_work s now
polled_most s now next (Less h) = omega (arith, h)
polled_most s now next (Empty h n r) = h
polled_most s now next (Full h n r) = h

-- a call makes at most the work of a request
pub call_work : (s : ScenarioLists) (pool : Option ℕ) (e : EndpointId) (st : State) (c : Call) →
    body_work s (called st c (outcome_of_call pool e st c)).body ≤ body_work s st.body + new_request s
call_work s pool e st (Calls.Request index handler words) = request_work s e st index handler words (request_refusal pool st index)
    (entry_at st.body.mapped index)
call_work s pool e st Calls.Poll = omega (arith, polled_most s st.body (called st Calls.Poll (poll e st st.body.notices)).body (poll_work s e st))
call_work s pool e st (Calls.SetTag tag) = omega (arith, plain_work s st (Calls.SetTag tag) (outcome_of_call pool e st (Calls.SetTag tag)) tt)
call_work s pool e st (Calls.Map index name tag credits) = omega (
  arith,
  plain_work s st (Calls.Map index name tag credits) (outcome_of_call pool e st (Calls.Map index name tag credits)) tt,
)
call_work s pool e st (Calls.Unmap index) = omega (arith, plain_work s st (Calls.Unmap index) (outcome_of_call pool e st (Calls.Unmap index)) tt)
call_work s pool e st (Calls.SetHandler index kind) = omega (
  arith,
  plain_work s st (Calls.SetHandler index kind) (outcome_of_call pool e st (Calls.SetHandler index kind)) tt,
)
call_work s pool e st (Calls.GiveUp serial) = omega (arith, plain_work s st (Calls.GiveUp serial) (outcome_of_call pool e st (Calls.GiveUp serial)) tt)
call_work s pool e st Calls.Close = omega (arith, plain_work s st Calls.Close (outcome_of_call pool e st Calls.Close) tt)
call_work s pool e st (Calls.Test mask) = omega (arith, plain_work s st (Calls.Test mask) (outcome_of_call pool e st (Calls.Test mask)) tt)
