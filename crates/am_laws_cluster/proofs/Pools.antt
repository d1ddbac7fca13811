-- The lists of an endpoint stay within their bounds.
use Rattle.std.specs.Prelude.{not, nat_le, nat_lt, count_by}
use Rattle.std.proofs.Common.{◌≡◌, ℕ, ◌+◌, ◌≤◌, Bool, true, false, cond, ◌&&◌, ◌||◌, List, [], ◌∷◌, ◌++◌, length, Option, Some, None, refl, sym, ap, ◌∙◌, subst}
use Rattle.std.proofs.Common.{arith, leb-false, true≢false, if◌then◌else◌}
use Rattle.std.proofs.lemmas.List.Sums.{sum_by_push, sum_by-cons}
use Rattle.std.specs.List.{list_any, find}
use Rattle.am_names.specs.Rules.{is_transient}
use Rattle.am_names.specs.declared.EndpointId.{EndpointId}
use Rattle.am_names.specs.declared.NodeId.{NodeId}
use Rattle.am_names.specs.declared.Serial.{Serial}
use Rattle.am_names.specs.declared.Cause.TheVariants.{NotResident}
use Rattle.am_names.specs.declared.Verdict.{Verdict}
use Rattle.am_names.specs.declared.Verdict.TheVariants as Verdicts
use Rattle.am_names.specs.declared.Why.{Why}
use Rattle.am_names.specs.declared.Why.TheVariants as Whys
use Rattle.am_names.specs.declared.Message.{Message}
use Rattle.am_office_entries.specs.declared.Actor.{Actor}
use Rattle.am_office_entries.specs.declared.Call.{Call}
use Rattle.am_office_entries.specs.declared.Call.TheVariants as Calls
use Rattle.am_office_entries.specs.declared.Event.{Event}
use Rattle.am_office_entries.specs.declared.Event.TheVariants as Events
use Rattle.am_office_entries.specs.declared.Received.{Received}
use Rattle.am_office_entries.specs.declared.Received.TheVariants as Got
use Rattle.am_office_entries.specs.declared.Outcome.{Outcome}
use Rattle.am_office_entries.specs.declared.Outcome.TheVariants as Out
use Rattle.am_office_entries.specs.declared.Entry.{Entry}
use Rattle.am_names.specs.Names.{same_end, same_serial, is_request, is_reply}
use Rattle.am_model.specs.declared.Awaited.{Awaited}
use Rattle.am_model.specs.declared.Queued.{Queued}
use Rattle.am_model.specs.declared.Flying.{Flying}
use Rattle.am_model.specs.declared.Notice.{Notice}
use Rattle.am_model.specs.Endpoint.{State, Body, waits_for, is_waited_for, front, is_arrived, requests_held, replies_held, IsWithinBounds}
use Rattle.am_model.specs.Calls.{outcome_of_call, answer}
use Rattle.am_model.specs.Changes.{called, left, reached, paged_out, paged_in, changed, put, received, expired, bound, arrived, with_arrived, flying_of}
use Rattle.am_model.specs.Changes.{without_flight, bounces_of}
use Rattle.am_office_entries.specs.Entries.{put_of, ends_touched, touched_by_result, touches}
use Rattle.am_model.specs.Layout.{Layout, AllAre, EndSetting, has_id, opening_by}
use Rattle.am_model.specs.Channels.{attempt}
use Rattle.am_model.specs.History.{state_of, MayFollow, IsHistory, judged}
use Rattle.am_model.proofs.Each.{over_each, each_push, state_of_push}
use Rattle.am_model.proofs.Received.{bit, one_touched, FitsCall}
use Rattle.am_model.proofs.Books.{fits_call}
use Rattle.am_laws.proofs.Delivered.{delivers, put_facts}
use Rattle.am_laws.proofs.Sent.{FitsSend, fits_send}
use Rattle.std.proofs.Common.{append-nil}
use Rattle.am_model.specs.Changes.{queued, appended, requests_left, without_front, notice_of, requeued_flight}
use Rattle.am_model.specs.Cluster.{PoolsAreBounded}
use Rattle.am_model.proofs.Own.{is_call}
use Rattle.am_model.proofs.Sizes.{within_called, waiting_kept}
use Rattle.am_model.proofs.Queues.{Judged}
use Rattle.am_model.proofs.Received.{weight, run_at, put_at, changed_received}
use Rattle.am_model.proofs.Alls.{all_push}
use Rattle.am_model.proofs.Names.{same_end-is}
use Rattle.am_laws.proofs.Alls.{all_tail}
use Rattle.am_laws.proofs.Aloft.{Weight, aloft, queue_weight, one_weight, as_queued, rebounced, parts, comes, entry_moves, carry_parts, carry_comes}
use Rattle.am_laws.proofs.Shares.{table_holds}

-- the messages that pass, of all that an endpoint is to send, has in flight or has back
abbrev pub passing : (Message → Bool) → Weight
passing p m bounces = bit (p m)

abbrev pub back_of : (Message → Bool) → List Notice → ℕ
back_of p notices = count_by (λ (n : Notice). p n.message) notices

abbrev pub all_of : (Message → Bool) → Body → ℕ
all_of p b = aloft (passing p) b + back_of p b.notices

-- the queues have messages of their kinds
pub record AreSorted (b : Body) : Type 0 where
  pub requests : AllAre (λ (q : Queued). is_request q.message ≡ true) b.requests
  pub replies : AllAre (λ (q : Queued). is_request q.message ≡ false) b.replies

appended_requests : (m : Message) (bounces : ℕ) (queue : List Queued) → AllAre (λ (q : Queued). is_request q.message ≡ true) queue →
    AllAre (λ (q : Queued). is_request q.message ≡ true) (appended (is_request m) m bounces queue)
appended_requests m bounces queue h = by_test (is_request m) refl
  where
    by_test : (b : Bool) → is_request m ≡ b → AllAre (λ (q : Queued). is_request q.message ≡ true) (appended b m bounces queue)
    by_test true is = all_push (λ (q : Queued). is_request q.message ≡ true) queue (record { message = m; bounces = bounces }) h is
    by_test false is = h

appended_replies : (m : Message) (bounces : ℕ) (queue : List Queued) → AllAre (λ (q : Queued). is_request q.message ≡ false) queue →
    AllAre (λ (q : Queued). is_request q.message ≡ false) (appended (is_reply m) m bounces queue)
appended_replies m bounces queue h = by_test (is_request m) refl
  where
    by_test : (b : Bool) → is_request m ≡ b → AllAre (λ (q : Queued). is_request q.message ≡ false) (appended (if b then false else true) m bounces queue)
    by_test true is = h
    by_test false is = all_push (λ (q : Queued). is_request q.message ≡ false) queue (record { message = m; bounces = bounces }) h is

queued_sorted : (m : Message) (bounces : ℕ) (b : Body) → AreSorted b → AreSorted (queued m bounces b)
queued_sorted m bounces b k = record { requests = appended_requests m bounces b.requests k.requests; replies = appended_replies m bounces b.replies k.replies }

requests_left_sorted : (replies requests : List Queued) → AllAre (λ (q : Queued). is_request q.message ≡ true) requests →
    AllAre (λ (q : Queued). is_request q.message ≡ true) (requests_left replies requests)
requests_left_sorted [] requests h = all_tail (λ (q : Queued). is_request q.message ≡ true) requests h
requests_left_sorted (r ∷ replies) requests h = h

without_front_sorted : (b : Body) → AreSorted b → AreSorted (without_front b)
without_front_sorted b k = record {
  requests = requests_left_sorted b.replies b.requests k.requests;
  replies = all_tail (λ (q : Queued). is_request q.message ≡ false) b.replies k.replies;
}

called_sorted : (s : State) (c : Call) (o : Outcome) → AreSorted s.body → AreSorted (called s c o).body
called_sorted s (Calls.Request index handler words) (Out.Requested m) k = record {
  requests = appended_requests m 0 s.body.requests k.requests;
  replies = appended_replies m 0 s.body.replies k.replies;
}
called_sorted s Calls.Poll (Out.Zero serial why) k = record { requests = k.requests; replies = k.replies }
called_sorted s Calls.Poll (Out.Ran handler m None) k = record { requests = k.requests; replies = k.replies }
called_sorted s Calls.Poll (Out.Ran handler m (Some reply)) k = record {
  requests = appended_requests reply 0 s.body.requests k.requests;
  replies = appended_replies reply 0 s.body.replies k.replies;
}
called_sorted s (Calls.SetTag tag) Out.Done k = record { requests = k.requests; replies = k.replies }
called_sorted s (Calls.Map index name tag credits) Out.Done k = record { requests = k.requests; replies = k.replies }
called_sorted s (Calls.Unmap index) Out.Done k = record { requests = k.requests; replies = k.replies }
called_sorted s (Calls.SetHandler index kind) Out.Done k = record { requests = k.requests; replies = k.replies }
called_sorted s (Calls.GiveUp serial) Out.Done k = record { requests = k.requests; replies = k.replies }
called_sorted s Calls.Close Out.Done k = k
called_sorted s c o k = k

left_sorted : (s : State) (o : Outcome) (t : Bool) → AreSorted s.body → AreSorted (if t then left s o else s).body
left_sorted s (Out.Accepted m) true k = without_front_sorted s.body k
left_sorted s (Out.Requeued m cause bounces) true k = queued_sorted m bounces (without_front s.body) (without_front_sorted s.body k)
left_sorted s (Out.Returned m cause) true k = let w = without_front_sorted s.body k in record { requests = w.requests; replies = w.replies }
left_sorted s o true k = k
left_sorted s o false k = k

reached_sorted : (e : EndpointId) (s : State) (o : Outcome) → AreSorted s.body → AreSorted (reached e s o).body
reached_sorted e s (Out.Accepted m) k = by_test (same_end e m.dest)
  where
    by_test : (b : Bool) → AreSorted (if b then put m s else s).body
    by_test true = record { requests = k.requests; replies = k.replies }
    by_test false = k
reached_sorted e s o k = k

requeued_sorted : (flight : Option Flying) (bounces : ℕ) (b : Body) → AreSorted b → AreSorted (requeued_flight flight bounces b)
requeued_sorted None bounces b k = record { requests = k.requests; replies = k.replies }
requeued_sorted (Some f) bounces b k = record {
  requests = appended_requests f.message bounces b.requests k.requests;
  replies = appended_replies f.message bounces b.replies k.replies;
}

received_sorted : (e : EndpointId) (s : State) (r : Received) → AreSorted s.body → AreSorted (received e s r).body
received_sorted e s (Got.Accepted m answer) k = record { requests = k.requests; replies = k.replies }
received_sorted e s (Got.Refused m NotResident answer) k = k
received_sorted e s (Got.Delivered t) k = record { requests = k.requests; replies = k.replies }
received_sorted e s (Got.Requeued t cause bounces) k = requeued_sorted (flying_of t s.body.in_flight) bounces (without_flight t s.body)
    (record { requests = k.requests; replies = k.replies })
received_sorted e s (Got.Returned t cause) k = record { requests = k.requests; replies = k.replies }
received_sorted e s r k = k

expired_sorted : (s : State) (o : Outcome) → AreSorted s.body → AreSorted (expired s o).body
expired_sorted s (Out.Delivered t) k = record { requests = k.requests; replies = k.replies }
expired_sorted s (Out.Unknown t) k = record { requests = k.requests; replies = k.replies }
expired_sorted s o k = k

bound_sorted : (s : State) (o : Outcome) → AreSorted s.body → AreSorted (bound s o).body
bound_sorted s (Out.Sent m peer channel seq attempt number) k = let w = without_front_sorted s.body k in record { requests = w.requests; replies = w.replies }
bound_sorted s o k = k

out_sorted : (s : State) (o : Outcome) → AreSorted s.body → AreSorted (paged_out s o).body
out_sorted s Out.Done k = k
out_sorted s o k = k

in_sorted : (s : State) (o : Outcome) → AreSorted s.body → AreSorted (paged_in s o).body
in_sorted s Out.Done k = k
in_sorted s o k = k

changed_sorted : (e : EndpointId) (s : State) (event : Event) (o : Outcome) → AreSorted s.body → AreSorted (changed e s event o).body
changed_sorted e s (Events.Call actor end call) o k = called_sorted s call o k
changed_sorted e s (Events.Want actor end) o k = k
changed_sorted e s (Events.Carry end) o k = reached_sorted e (if same_end e end then left s o else s) o (left_sorted s o (same_end e end) k)
changed_sorted e s (Events.Bind node end) o k = bound_sorted s o k
changed_sorted e s (Events.Expire node peer channel) o k = expired_sorted s o k
changed_sorted e s (Events.Receive node peer number) (Out.Received channel seq attempt r) k = received_sorted e s r k
changed_sorted e s (Events.Receive node peer number) o k = k
changed_sorted e s (Events.Drain node end) o k = k
changed_sorted e s (Events.Unload node end) o k = k
changed_sorted e s (Events.Load node end frame) o k = k
changed_sorted e s (Events.PageOut node end) o k = out_sorted s o k
changed_sorted e s (Events.PageIn node end) o k = in_sorted s o k

-- the slots that are held, by their kinds
requests_weigh : (xs : List Queued) → AllAre (λ (q : Queued). is_request q.message ≡ true) xs →
    (queue_weight (passing is_request) xs ≡ length xs) × (queue_weight (passing is_reply) xs ≡ 0)
requests_weigh [] h = (refl, refl)
requests_weigh (q ∷ xs) h =
    let more = requests_weigh xs h.1 in
    let none : bit (is_reply q.message) ≡ 0 = ap (λ (b : Bool). bit (if b then false else true)) h.0 in (
      omega (arith, more.0, sum_by-cons (λ (y : Queued). bit (is_request y.message)) q xs, ap bit h.0),
      omega (arith, more.1, sum_by-cons (λ (y : Queued). bit (is_reply y.message)) q xs, none),
    )

replies_weigh : (xs : List Queued) → AllAre (λ (q : Queued). is_request q.message ≡ false) xs →
    (queue_weight (passing is_reply) xs ≡ length xs) × (queue_weight (passing is_request) xs ≡ 0)
replies_weigh [] h = (refl, refl)
replies_weigh (q ∷ xs) h =
    let more = replies_weigh xs h.1 in
    let one' : bit (is_reply q.message) ≡ 1 = ap (λ (b : Bool). bit (if b then false else true)) h.0 in (
      omega (arith, more.0, sum_by-cons (λ (y : Queued). bit (is_reply y.message)) q xs, one'),
      omega (arith, more.1, sum_by-cons (λ (y : Queued). bit (is_request y.message)) q xs, ap bit h.0),
    )

requests_are : (b : Body) → AreSorted b → requests_held b ≡ all_of is_request b
requests_are b k = omega (arith, (requests_weigh b.requests k.requests).0, (replies_weigh b.replies k.replies).1)

replies_are : (b : Body) → AreSorted b → replies_held b ≡ all_of is_reply b
replies_are b k = omega (arith, (requests_weigh b.requests k.requests).1, (replies_weigh b.replies k.replies).0)

-- what leaves makes room for what comes and what comes back
notice_back : (p : Message → Bool) (notices : List Notice) (why : Why) (flight : Option Flying) →
    back_of p (notices ++ notice_of why flight) ≡ back_of p notices + one_weight (passing p) (as_queued flight)
notice_back p notices why None = omega (arith, ap (back_of p) (append-nil notices))
notice_back p notices why (Some f) = sum_by_push (λ (n : Notice). bit (p n.message)) notices (record { message = f.message; bounces = f.bounces; why = why })

rebounced_same : (p : Message → Bool) (bounces : ℕ) (flight : Option Flying) →
    one_weight (passing p) (rebounced bounces flight) ≡ one_weight (passing p) (as_queued flight)
rebounced_same p bounces None = refl
rebounced_same p bounces (Some f) = refl

abbrev MakesRoom : (Message → Bool) → Option Queued → Option Queued → List Notice → List Notice → Type 0
MakesRoom p gone come old new = one_weight (passing p) come + back_of p new ≤ one_weight (passing p) gone + back_of p old

reached_notices : (e : EndpointId) (s : State) (o : Outcome) → (reached e s o).body.notices ≡ s.body.notices
reached_notices e s (Out.Accepted m) = by_test (same_end e m.dest)
  where
    by_test : (b : Bool) → (if b then put m s else s).body.notices ≡ s.body.notices
    by_test true = refl
    by_test false = refl
reached_notices e s o = refl

judged_room : (p : Message → Bool) (e : EndpointId) (s : State) (q : Queued) (limit bounces : ℕ) (v : Verdict) → front s ≡ Some q →
    let o = judged limit q.message bounces v in MakesRoom p (carry_parts o (front s)) (carry_comes o) s.body.notices (reached e (left s o) o).body.notices
judged_room p e s q limit bounces Verdicts.Accepted at = omega (
  arith,
  ap (back_of p) (reached_notices e (left s (Out.Accepted q.message)) (Out.Accepted q.message)),
)
judged_room p e s q limit bounces (Verdicts.Refused cause) at = by_again (is_transient cause && nat_lt bounces limit)
  where
    by_again : (b : Bool) → let o = if b then Out.Requeued q.message cause (bounces + 1) else Out.Returned q.message cause in
        MakesRoom p (carry_parts o (front s)) (carry_comes o) s.body.notices (reached e (left s o) o).body.notices
    by_again true = omega (arith, ap (one_weight (passing p)) at)
    by_again false = omega (
      arith,
      ap (one_weight (passing p)) at,
      sum_by_push (λ (n : Notice). bit (p n.message)) s.body.notices (record {
        message = q.message;
        bounces = bounces_of s.body.replies s.body.requests;
        why = Whys.Refused cause;
      }),
    )

carried_room : (p : Message → Bool) (e : EndpointId) (s : State) (o : Outcome) (t : Bool) → (t ≡ true → Judged s o) →
    MakesRoom p (if t then carry_parts o (front s) else None) (if t then carry_comes o else None) s.body.notices
    (reached e (if t then left s o else s) o).body.notices
carried_room p e s o true fits =
    let j = fits refl in
    subst (λ (w : Outcome). MakesRoom p (carry_parts w (front s)) (carry_comes w) s.body.notices (reached e (left s w) w).body.notices) (sym j.is_judged)
    (judged_room p e s j.queued j.limit j.bounces j.verdict j.is_front)
carried_room p e s o false fits = omega (arith, ap (back_of p) (reached_notices e s o))

result_room : (p : Message → Bool) (e : EndpointId) (s : State) (r : Received) →
    MakesRoom p (Rattle.am_laws.proofs.Aloft.parts_by r s.body.in_flight) (Rattle.am_laws.proofs.Aloft.comes_by r s.body.in_flight) s.body.notices
    (received e s r).body.notices
result_room p e s (Got.Accepted m answer) = omega arith
result_room p e s (Got.Refused m NotResident answer) = omega arith
result_room p e s (Got.Delivered t) = omega arith
result_room p e s (Got.Requeued t cause bounces) = omega (arith, rebounced_same p bounces (flying_of t s.body.in_flight))
result_room p e s (Got.Returned t cause) = omega (arith, notice_back p s.body.notices (Whys.Refused cause) (flying_of t s.body.in_flight))
result_room p e s r = omega arith

expired_room : (p : Message → Bool) (s : State) (o : Outcome) →
    MakesRoom p (Rattle.am_laws.proofs.Aloft.expiry_parts o s.body.in_flight) None s.body.notices (expired s o).body.notices
expired_room p s (Out.Delivered t) = omega arith
expired_room p s (Out.Unknown t) = omega (arith, notice_back p s.body.notices Whys.Unknown (flying_of t s.body.in_flight))
expired_room p s o = omega arith

bound_room : (p : Message → Bool) (s : State) (o : Outcome) → back_of p (bound s o).body.notices ≡ back_of p s.body.notices
bound_room p s (Out.Sent m peer channel seq attempt number) = refl
bound_room p s o = refl

out_room : (p : Message → Bool) (s : State) (o : Outcome) → back_of p (paged_out s o).body.notices ≡ back_of p s.body.notices
out_room p s Out.Done = refl
out_room p s o = refl

in_room : (p : Message → Bool) (s : State) (o : Outcome) → back_of p (paged_in s o).body.notices ≡ back_of p s.body.notices
in_room p s Out.Done = refl
in_room p s o = refl

entry_room : (p : Message → Bool) (e : EndpointId) (s : State) (event : Event) (o : Outcome) → FitsSend e s event o → is_call event ≡ false →
    MakesRoom p (parts e s event o) (comes e s event o) s.body.notices (changed e s event o).body.notices
entry_room p e s (Events.Call actor end call) o fits h = absurd (true≢false h)
entry_room p e s (Events.Want actor end) o fits h = omega arith
entry_room p e s (Events.Carry end) o fits h = carried_room p e s o (same_end e end) fits
entry_room p e s (Events.Bind node end) o fits h = omega (arith, bound_room p s o)
entry_room p e s (Events.Expire node peer channel) o fits h = expired_room p s o
entry_room p e s (Events.Receive node peer number) (Out.Received channel seq attempt r) fits h = result_room p e s r
entry_room p e s (Events.Receive node peer number) o fits h = omega arith
entry_room p e s (Events.Drain node end) o fits h = omega arith
entry_room p e s (Events.Unload node end) o fits h = omega arith
entry_room p e s (Events.Load node end frame) o fits h = omega arith
entry_room p e s (Events.PageOut node end) o fits h = omega (arith, out_room p s o)
entry_room p e s (Events.PageIn node end) o fits h = omega (arith, in_room p s o)

pub no_more : (p : Message → Bool) (e : EndpointId) (s : State) (event : Event) (o : Outcome) → FitsSend e s event o → is_call event ≡ false →
    all_of p (changed e s event o).body ≤ all_of p s.body
no_more p e s event o fits h =
    let m = entry_moves e s event o fits in
    omega (arith, m.leaves (passing p), m.comes (passing p), entry_room p e s event o fits h)

-- the arrived records

more_arrive : (t : Serial) (xs : List Awaited) → count_by is_arrived xs + bit (list_any (waits_for t) xs) ≤ count_by is_arrived (with_arrived (Some t) xs)
more_arrive t [] = omega arith
more_arrive t (a ∷ xs) = omega (
  arith,
  more_arrive t xs,
  sum_by-cons (λ (y : Awaited). cond y.arrived 1 0) a xs,
  sum_by-cons (λ (y : Awaited). cond y.arrived 1 0) (arrived t a) (with_arrived (Some t) xs),
  one' a.arrived (same_serial t a.serial) (list_any (waits_for t) xs),
)
  where
    one' : (x y z : Bool) → bit x + bit ((y && not x) || z) ≤ bit (x || y) + bit z
    one' true true true = omega arith
    one' true true false = omega arith
    one' true false true = omega arith
    one' true false false = omega arith
    one' false true true = omega arith
    one' false true false = omega arith
    one' false false true = omega arith
    one' false false false = omega arith

about_arrives : (about : Option Serial) (xs : List Awaited) →
    count_by is_arrived xs + bit (is_waited_for xs about) ≤ count_by is_arrived (with_arrived about xs)
about_arrives None xs = omega arith
about_arrives (Some t) xs = more_arrive t xs

put_arrives : (m : Message) (xs : List Awaited) → (is_reply m && not (is_waited_for xs m.about)) ≡ false →
    count_by is_arrived xs + bit (is_reply m) ≤ count_by is_arrived (with_arrived m.about xs)
put_arrives m xs h = omega (arith, about_arrives m.about xs, by_tests (is_reply m) (is_waited_for xs m.about) h)
  where
    by_tests : (a b : Bool) → (a && not b) ≡ false → bit a ≤ bit b
    by_tests true true e = omega arith
    by_tests true false e = absurd (true≢false e)
    by_tests false b e = omega arith

abbrev Welcomes : EndpointId → State → Event → Outcome → Type 0
Welcomes e s event o = (m : Message) → put_at e event o ≡ Some m → (is_reply m && not (is_waited_for s.body.awaited m.about)) ≡ false

left_arrives : (s : State) (o : Outcome) (t : Bool) → count_by is_arrived (if t then left s o else s).body.awaited ≡ count_by is_arrived s.body.awaited
left_arrives s (Out.Accepted m) true = refl
left_arrives s (Out.Requeued m cause bounces) true = refl
left_arrives s (Out.Returned m cause) true = waiting_kept m.serial s.body.awaited
left_arrives s o true = refl
left_arrives s o false = refl

carried_arrives : (e end : EndpointId) (s : State) (o : Outcome) → Welcomes e s (Events.Carry end) o →
    count_by is_arrived s.body.awaited + weight is_reply (put_at e (Events.Carry end) o) ≤ count_by is_arrived
    (reached e (if same_end e end then left s o else s) o).body.awaited
carried_arrives e end s (Out.Accepted m) w = by_test (same_end e m.dest) refl (same_end e end)
  where
    same : (b : Bool) → (if b then left s (Out.Accepted m) else s).body.awaited ≡ s.body.awaited
    same true = refl
    same false = refl

    by_test : (t : Bool) → same_end e m.dest ≡ t → (b : Bool) →
        count_by is_arrived s.body.awaited + weight is_reply (if t then Some m else None) ≤ count_by is_arrived
        (if t then put m (if b then left s (Out.Accepted m) else s) else (if b then left s (Out.Accepted m) else s)).body.awaited
    by_test true at b =
        let put' = put_arrives m s.body.awaited (w m (ap (λ (t : Bool). if t then Some m else None) at)) in
        omega (arith, put', ap (λ (xs : List Awaited). count_by is_arrived (with_arrived m.about xs)) (same b))
    by_test false at b = omega (arith, ap (count_by is_arrived) (same b))
carried_arrives e end s o w = omega (arith, left_arrives s o (same_end e end))

result_arrives : (e : EndpointId) (s : State) (node peer : NodeId) (number channel seq attempt : ℕ) (r : Received) →
    list_any (same_end e) (touched_by_result r) ≡ true → Welcomes e s (Events.Receive node peer number) (Out.Received channel seq attempt r) →
    count_by is_arrived s.body.awaited + weight is_reply (put_at e (Events.Receive node peer number) (Out.Received channel seq attempt r)) ≤ count_by is_arrived
    (received e s r).body.awaited
result_arrives e s node peer number channel seq attempt (Got.Accepted m answer) t w = by_test (same_end e m.dest) refl (one_touched (same_end e m.dest) t)
  where
    by_test : (b : Bool) → same_end e m.dest ≡ b → b ≡ true →
        count_by is_arrived s.body.awaited + weight is_reply (if b then Some m else None) ≤ count_by is_arrived (with_arrived m.about s.body.awaited)
    by_test true at h = put_arrives m s.body.awaited (w m (ap (λ (b : Bool). if b then Some m else None) at))
    by_test false at h = absurd (true≢false (sym h))
result_arrives e s node peer number channel seq attempt (Got.Refused m NotResident answer) t w = omega arith
result_arrives e s node peer number channel seq attempt (Got.Delivered u) t w = omega arith
result_arrives e s node peer number channel seq attempt (Got.Requeued u cause bounces) t w = omega arith
result_arrives e s node peer number channel seq attempt (Got.Returned u cause) t w = omega (arith, waiting_kept u s.body.awaited)
result_arrives e s node peer number channel seq attempt r t w = omega arith

expired_arrives : (s : State) (o : Outcome) → count_by is_arrived (expired s o).body.awaited ≡ count_by is_arrived s.body.awaited
expired_arrives s (Out.Delivered t) = refl
expired_arrives s (Out.Unknown t) = waiting_kept t s.body.awaited
expired_arrives s o = refl

bound_arrives : (s : State) (o : Outcome) → count_by is_arrived (bound s o).body.awaited ≡ count_by is_arrived s.body.awaited
bound_arrives s (Out.Sent m peer channel seq attempt number) = refl
bound_arrives s o = refl

out_arrives : (s : State) (o : Outcome) → count_by is_arrived (paged_out s o).body.awaited ≡ count_by is_arrived s.body.awaited
out_arrives s Out.Done = refl
out_arrives s o = refl

in_arrives : (s : State) (o : Outcome) → count_by is_arrived (paged_in s o).body.awaited ≡ count_by is_arrived s.body.awaited
in_arrives s Out.Done = refl
in_arrives s o = refl

entry_arrives : (e : EndpointId) (s : State) (event : Event) (o : Outcome) → list_any (same_end e) (ends_touched event o) ≡ true → is_call event ≡ false →
    Welcomes e s event o → count_by is_arrived s.body.awaited + weight is_reply (put_at e event o) ≤ count_by is_arrived (changed e s event o).body.awaited
entry_arrives e s (Events.Call actor end call) o t h w = absurd (true≢false h)
entry_arrives e s (Events.Want actor end) o t h w = omega arith
entry_arrives e s (Events.Carry end) o t h w = carried_arrives e end s o w
entry_arrives e s (Events.Bind node end) o t h w = omega (arith, bound_arrives s o)
entry_arrives e s (Events.Expire node peer channel) o t h w = omega (arith, expired_arrives s o)
entry_arrives e s (Events.Receive node peer number) (Out.Received channel seq attempt r) t h w = result_arrives e s node peer number channel seq attempt r t w
entry_arrives e s (Events.Receive node peer number) o t h w = omega arith
entry_arrives e s (Events.Drain node end) o t h w = omega arith
entry_arrives e s (Events.Unload node end) o t h w = omega arith
entry_arrives e s (Events.Load node end frame) o t h w = omega arith
entry_arrives e s (Events.PageOut node end) o t h w = omega (arith, out_arrives s o)
entry_arrives e s (Events.PageIn node end) o t h w = omega (arith, in_arrives s o)

-- what is kept of the lists of each endpoint
pub record Bounded (layout : Layout) (past : List Entry) : Type 0 where
  pub history : IsHistory layout past
  pub sorted : (e : EndpointId) → AreSorted (state_of layout past e).body
  pub within : (e : EndpointId) → IsWithinBounds (state_of layout past e).body

no_run : (e : EndpointId) (event : Event) (o : Outcome) → is_call event ≡ false → run_at e event o ≡ None
no_run e (Events.Call actor end call) o h = absurd (true≢false h)
no_run e event o h = refl

-- of an entry that is no call
other_within : (layout : Layout) (past : List Entry) (x : Entry) → Bounded layout past → MayFollow layout past x → (e : EndpointId) → touches e x ≡ true →
    is_call x.event ≡ false → IsWithinBounds (changed e (state_of layout past e) x.event x.outcome).body
other_within layout past x k may e at h =
    record {
      requests = omega (
        arith,
        requests_are (state_of layout past e).body (k.sorted e),
        requests_are (changed e (state_of layout past e) x.event x.outcome).body new,
        no_more is_request e (state_of layout past e) x.event x.outcome fits h,
        (k.within e).requests,
      );
      replies = omega (
        arith,
        replies_are (state_of layout past e).body (k.sorted e),
        replies_are (changed e (state_of layout past e) x.event x.outcome).body new,
        no_more is_reply e (state_of layout past e) x.event x.outcome fits h,
        (k.within e).replies,
      );
      awaited = subst (λ (s : State). length s.body.awaited ≤ 32) (state_of_push layout past x e true at)
          (table_holds layout (past ++ x ∷ []) (each_push (MayFollow layout) [] past x k.history may) e);
      received = omega (arith, received is_request, room (put_at e x.event x.outcome) refl);
      answers = omega (
        arith,
        received is_reply,
        (k.within e).answers,
        entry_arrives e (state_of layout past e) x.event x.outcome at h (λ m is. (welcome' m is).awaited),
      );
    }
  where
    fits : FitsSend e (state_of layout past e) x.event x.outcome
    fits = fits_send layout past e x may at

    new : AreSorted (changed e (state_of layout past e) x.event x.outcome).body
    new = changed_sorted e (state_of layout past e) x.event x.outcome (k.sorted e)

    put_here : (m : Message) → put_at e x.event x.outcome ≡ Some m → (put_of x ≡ Some m) × (e ≡ m.dest)
    put_here m is = by_put (put_of x) refl is
      where
        by_test : (n : Message) (b : Bool) → same_end e n.dest ≡ b → put_of x ≡ Some n → (if b then Some n else None) ≡ Some m →
            (put_of x ≡ Some m) × (e ≡ m.dest)
        by_test n true on here f = let same : n ≡ m = cc in (
          here ∙ ap (λ (w : Message). Some w) same,
          same_end-is e n.dest on
              ∙ ap (λ (w : Message). w.dest) same,
        )
        by_test n false on here f = absurd (cc)

        by_put : (w : Option Message) → put_of x ≡ w → Rattle.am_model.specs.PostOffice.only_if (λ (n : Message). same_end e n.dest) w ≡ Some m →
            (put_of x ≡ Some m) × (e ≡ m.dest)
        by_put None here f = absurd (cc)
        by_put (Some n) here f = by_test n (same_end e n.dest) refl here f

    welcome' : (m : Message) → put_at e x.event x.outcome ≡ Some m → Rattle.am_laws.proofs.Held.IsWelcome (state_of layout past e) m
    welcome' m is =
        let p = put_here m is in
        subst (λ (w : EndpointId). Rattle.am_laws.proofs.Held.IsWelcome (state_of layout past w) m) (sym p.1)
        (put_facts layout past x (delivers layout past k.history) may m p.0).welcome

    received : (p : Message → Bool) → count_by p (changed e (state_of layout past e) x.event x.outcome).body.received ≡ count_by p
        (state_of layout past e).body.received + weight p (put_at e x.event x.outcome)
    received p = omega (
      arith,
      changed_received layout.pool p e (state_of layout past e) x.event x.outcome at (fits_call layout past e x may at),
      ap (weight p) (no_run e x.event x.outcome h),
    )

    room : (w : Option Message) → put_at e x.event x.outcome ≡ w →
        count_by is_request (state_of layout past e).body.received + weight is_request (put_at e x.event x.outcome) ≤ 16
    room None is = omega (arith, ap (weight is_request) is, (k.within e).received)
    room (Some m) is = by_tests (is_request m) (nat_le 16 (count_by is_request (state_of layout past e).body.received)) refl refl (welcome' m is).room
      where
        by_tests : (a b : Bool) → is_request m ≡ a → nat_le 16 (count_by is_request (state_of layout past e).body.received) ≡ b → (a && b) ≡ false →
            count_by is_request (state_of layout past e).body.received + weight is_request (put_at e x.event x.outcome) ≤ 16
        by_tests true true ha hb f = absurd (true≢false f)
        by_tests true false ha hb f = omega (
          arith,
          ap (weight is_request) is,
          ap bit ha,
          leb-false 16 (count_by is_request (state_of layout past e).body.received) hb,
        )
        by_tests false b ha hb f = omega (arith, ap (weight is_request) is, ap bit ha, (k.within e).received)

call_within : (layout : Layout) (past : List Entry) (x : Entry) (actor : Actor) (end : EndpointId) (call : Call) → x.event ≡ Events.Call actor end call →
    Bounded layout past → MayFollow layout past x → (e : EndpointId) → touches e x ≡ true →
    IsWithinBounds (changed e (state_of layout past e) x.event x.outcome).body
call_within layout past x actor end call ev k may e at =
    let fits : x.outcome ≡ outcome_of_call layout.pool end (state_of layout past e) call =
    subst (λ (v : Event). FitsCall layout.pool (state_of layout past e) v x.outcome) ev (fits_call layout past e x may at) in
    subst (λ (v : Event). IsWithinBounds (changed e (state_of layout past e) v x.outcome).body) (sym ev)
    (subst (λ (o : Outcome). IsWithinBounds (called (state_of layout past e) call o).body) (sym fits)
    (within_called layout.pool end (state_of layout past e) call (k.within e)))

bounded_more : (layout : Layout) (past : List Entry) (x : Entry) → Bounded layout past → MayFollow layout past x → Bounded layout (past ++ x ∷ [])
bounded_more layout past x k may =
    record {
      history = each_push (MayFollow layout) [] past x k.history may;
      sorted = λ e. sorted e (touches e x) refl;
      within = λ e. within e (touches e x) refl;
    }
  where
    sorted : (e : EndpointId) (t : Bool) → touches e x ≡ t → AreSorted (state_of layout (past ++ x ∷ []) e).body
    sorted e true at = rw (state_of_push layout past x e true at) (changed_sorted e (state_of layout past e) x.event x.outcome (k.sorted e))
    sorted e false at = rw (state_of_push layout past x e false at) (k.sorted e)

    by_event : (e : EndpointId) (event : Event) → x.event ≡ event → touches e x ≡ true →
        IsWithinBounds (changed e (state_of layout past e) x.event x.outcome).body
    by_event e (Events.Call actor end call) ev at = call_within layout past x actor end call ev k may e at
    by_event e event ev at = other_within layout past x k may e at (ap is_call ev)

    within : (e : EndpointId) (t : Bool) → touches e x ≡ t → IsWithinBounds (state_of layout (past ++ x ∷ []) e).body
    within e true at = rw (state_of_push layout past x e true at) (by_event e x.event refl at)
    within e false at = rw (state_of_push layout past x e false at) (k.within e)

pub bounded : (layout : Layout) (past : List Entry) → IsHistory layout past → Bounded layout past
bounded layout past h =
    over_each (MayFollow layout) (λ xs. Bounded layout xs) (λ xs x k may. bounded_more layout xs x k may) []
    past (record { history = tt; sorted = λ e. sorted (find (has_id e) layout.ends); within = λ e. within (find (has_id e) layout.ends) }) h
  where
    sorted : (setting : Option EndSetting) → AreSorted (opening_by layout setting).body
    sorted None = record { requests = tt; replies = tt }
    sorted (Some setting) = record { requests = tt; replies = tt }

    within : (setting : Option EndSetting) → IsWithinBounds (opening_by layout setting).body
    within None = record { requests = omega arith; replies = omega arith; awaited = omega arith; received = omega arith; answers = omega arith }
    within (Some setting) = record { requests = omega arith; replies = omega arith; awaited = omega arith; received = omega arith; answers = omega arith }

-- the tenth part: the pools are bounded
pub pools_bounded : (layout : Layout) (past : List Entry) → IsHistory layout past → PoolsAreBounded layout past
pools_bounded layout past h = (bounded layout past h).within
