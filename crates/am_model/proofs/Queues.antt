-- What an entry of the direct network does to the messages that an endpoint is to send.
use Rattle.std.specs.Prelude.{nat_lt}
use Rattle.std.proofs.Common.{◌≡◌, ℕ, ◌+◌, Bool, true, false, cond, ◌&&◌, List, [], ◌∷◌, ◌++◌, drop, Option, Some, None, refl, arith, if◌then◌else◌}
use Rattle.std.specs.List.{count_by, list_any}
use Rattle.std.proofs.lemmas.List.Sums.{sum_by_push, sum_by-cons}
use Rattle.am_names.specs.Rules.{is_transient}
use Rattle.am_names.specs.declared.EndpointId.{EndpointId}
use Rattle.am_names.specs.declared.Message.{Message}
use Rattle.am_names.specs.declared.Cause.{Cause}
use Rattle.am_names.specs.declared.Verdict.{Verdict}
use Rattle.am_names.specs.declared.Verdict.TheVariants as Verdicts
use Rattle.am_office_entries.specs.declared.Call.{Call}
use Rattle.am_office_entries.specs.declared.Call.TheVariants as Calls
use Rattle.am_office_entries.specs.declared.Event.{Event}
use Rattle.am_office_entries.specs.declared.Event.TheVariants as Events
use Rattle.am_office_entries.specs.declared.Outcome.{Outcome}
use Rattle.am_office_entries.specs.declared.Outcome.TheVariants as Out
use Rattle.am_names.specs.Names.{same_end, is_request}
use Rattle.am_model.specs.declared.Queued.{Queued}
use Rattle.am_model.specs.Endpoint.{State, Body, front, front_of}
use Rattle.am_model.specs.Changes.{called, left, reached, queued, appended, requests_left, without_front, paged_out, paged_in, changed, put}
use Rattle.am_office_entries.specs.Entries.{accepted_by, ends_touched}
use Rattle.am_model.specs.History.{judged}
use Rattle.am_model.proofs.Received.{weight, one_touched}

abbrev pub in_list : (Message → Bool) → List Queued → ℕ
in_list p queue = count_by (λ (q : Queued). p q.message) queue

-- how many messages that pass are to be sent
abbrev pub to_send : (Message → Bool) → Body → ℕ
to_send p b = in_list p b.requests + in_list p b.replies

list_cons : (p : Message → Bool) (q : Queued) (queue : List Queued) → in_list p (q ∷ queue) ≡ cond (p q.message) 1 0 + in_list p queue
list_cons p q queue = sum_by-cons (λ (y : Queued). cond (p y.message) 1 0) q queue

list_push : (p : Message → Bool) (q : Queued) (queue : List Queued) → in_list p (queue ++ q ∷ []) ≡ in_list p queue + cond (p q.message) 1 0
list_push p q queue = sum_by_push (λ (y : Queued). cond (p y.message) 1 0) queue q

pub both_appended : (p : Message → Bool) (m : Message) (used : ℕ) (requests replies : List Queued) (is : Bool) →
    in_list p (appended is m used requests) + in_list p (appended (if is then false else true) m used replies) ≡ in_list p requests + in_list p replies + cond
    (p m) 1 0
both_appended p m used requests replies true = omega (arith, list_push p (record { message = m; bounces = used }) requests)
both_appended p m used requests replies false = omega (arith, list_push p (record { message = m; bounces = used }) replies)

queued_sends : (p : Message → Bool) (m : Message) (used : ℕ) (b : Body) → to_send p (queued m used b) ≡ to_send p b + cond (p m) 1 0
queued_sends p m used b = both_appended p m used b.requests b.replies (is_request m)

-- a call: what is accepted is to be sent from then on
pub called_sends : (p : Message → Bool) (s : State) (c : Call) (o : Outcome) → to_send p (called s c o).body ≡ to_send p s.body + weight p (accepted_by c o)
called_sends p s (Calls.Request index handler words) (Out.Requested m) = both_appended p m 0 s.body.requests s.body.replies (is_request m)
called_sends p s Calls.Poll (Out.Zero serial why) = omega arith
called_sends p s Calls.Poll (Out.Ran handler m None) = omega arith
called_sends p s Calls.Poll (Out.Ran handler m (Some reply)) = both_appended p reply 0 s.body.requests s.body.replies (is_request reply)
called_sends p s (Calls.SetTag tag) Out.Done = omega arith
called_sends p s (Calls.Map index name tag credits) Out.Done = omega arith
called_sends p s (Calls.Unmap index) Out.Done = omega arith
called_sends p s (Calls.SetHandler index kind) Out.Done = omega arith
called_sends p s (Calls.GiveUp serial) Out.Done = omega arith
called_sends p s Calls.Close Out.Done = omega arith
called_sends p s c o = omega arith

front_leaves_lists : (p : Message → Bool) (replies requests : List Queued) (q : Queued) → front_of replies requests ≡ Some q →
    in_list p (requests_left replies requests) + in_list p (drop 1 replies) + cond (p q.message) 1 0 ≡ in_list p requests + in_list p replies
front_leaves_lists p (r ∷ replies) requests q e = let same : r ≡ q = cc in rw (← same) (omega (arith, list_cons p r replies))
front_leaves_lists p [] (r ∷ requests) q e = let same : r ≡ q = cc in rw (← same) (omega (arith, list_cons p r requests))
front_leaves_lists p [] [] q e = absurd (cc)

pub front_leaves : (p : Message → Bool) (s : State) (q : Queued) → front s ≡ Some q →
    to_send p (without_front s.body) + cond (p q.message) 1 0 ≡ to_send p s.body
front_leaves p s q e = front_leaves_lists p s.body.replies s.body.requests q e

-- the message that leaves its source by a carry
abbrev pub gone : Outcome → Option Message
gone (Out.Accepted m) = Some m
gone (Out.Returned m cause) = Some m
gone o = None

refused_sends : (p : Message → Bool) (s : State) (q : Queued) (used : ℕ) (cause : Cause) (again : Bool) → front s ≡ Some q →
    let o = if again then Out.Requeued q.message cause used else Out.Returned q.message cause in
    to_send p (left s o).body + weight p (gone o) ≡ to_send p s.body
refused_sends p s q used cause true e = omega (arith, front_leaves p s q e, queued_sends p q.message used (without_front s.body))
refused_sends p s q used cause false e = front_leaves p s q e

-- the front message is judged
pub judged_sends : (p : Message → Bool) (s : State) (q : Queued) (tries used : ℕ) (v : Verdict) → front s ≡ Some q →
    to_send p (left s (judged tries q.message used v)).body + weight p (gone (judged tries q.message used v)) ≡ to_send p s.body
judged_sends p s q tries used Verdicts.Accepted e = front_leaves p s q e
judged_sends p s q tries used (Verdicts.Refused cause) e = refused_sends p s q (used + 1) cause (is_transient cause && nat_lt used tries) e

pub reached_sends : (p : Message → Bool) (e : EndpointId) (s : State) (o : Outcome) → to_send p (reached e s o).body ≡ to_send p s.body
reached_sends p e s (Out.Accepted m) = by_test (same_end e m.dest)
  where
    by_test : (b : Bool) → to_send p (if b then put m s else s).body ≡ to_send p s.body
    by_test true = refl
    by_test false = refl
reached_sends p e s o = refl

-- what an endpoint accepts here
abbrev pub accepted_at : EndpointId → Event → Outcome → Option Message
accepted_at e (Events.Call actor end call) o = if same_end e end then accepted_by call o else None
accepted_at e event o = None

-- what leaves an endpoint by a carry here
abbrev pub left_at : EndpointId → Event → Outcome → Option Message
left_at e (Events.Carry end) o = if same_end e end then gone o else None
left_at e event o = None

-- the outcome of a carry is a judgement on the front message of its source
pub record Judged (s : State) (o : Outcome) : Type 0 where
  pub queued : Queued
  pub limit : ℕ
  pub bounces : ℕ
  pub verdict : Verdict
  pub is_front : front s ≡ Some queued
  pub is_judged : o ≡ judged limit queued.message bounces verdict

-- the event is one of the direct network, and a carry is judged
abbrev pub FitsDirect : EndpointId → State → Event → Outcome → Type 0
FitsDirect e s (Events.Carry end) o = same_end e end ≡ true → Judged s o
FitsDirect e s (Events.Bind node end) o = ⊥
FitsDirect e s (Events.Expire node peer channel) o = ⊥
FitsDirect e s (Events.Receive node peer number) o = ⊥
FitsDirect e s event o = Unit {0}

pub carried_sends : (p : Message → Bool) (e : EndpointId) (s : State) (o : Outcome) (at_source : Bool) → (at_source ≡ true → Judged s o) →
    to_send p (reached e (if at_source then left s o else s) o).body + weight p (if at_source then gone o else None) ≡ to_send p s.body
carried_sends p e s o true fits =
    let j = fits refl in
    rw j.is_judged
    (omega (
      arith,
      reached_sends p e (left s (judged j.limit j.queued.message j.bounces j.verdict)) (judged j.limit j.queued.message j.bounces j.verdict),
      judged_sends p s j.queued j.limit j.bounces j.verdict j.is_front,
    ))
carried_sends p e s o false fits = omega (arith, reached_sends p e s o)

pub paged_out_sends : (p : Message → Bool) (s : State) (o : Outcome) → to_send p (paged_out s o).body ≡ to_send p s.body
paged_out_sends p s Out.Done = refl
paged_out_sends p s o = refl

pub paged_in_sends : (p : Message → Bool) (s : State) (o : Outcome) → to_send p (paged_in s o).body ≡ to_send p s.body
paged_in_sends p s Out.Done = refl
paged_in_sends p s o = refl

-- an entry that touches an endpoint: what it had to send and what it accepts is what it has to send and what left
pub changed_sends : (p : Message → Bool) (e : EndpointId) (s : State) (event : Event) (o : Outcome) → list_any (same_end e) (ends_touched event o) ≡ true →
    FitsDirect e s event o → to_send p (changed e s event o).body + weight p (left_at e event o) ≡ to_send p s.body + weight p (accepted_at e event o)
changed_sends p e s (Events.Call actor end call) o h fits =
    let at : same_end e end ≡ true = one_touched (same_end e end) h in rw at (omega (arith, called_sends p s call o))
changed_sends p e s (Events.Want actor end) o h fits = omega arith
changed_sends p e s (Events.Carry end) o h fits = omega (arith, carried_sends p e s o (same_end e end) fits)
changed_sends p e s (Events.Bind node end) o h fits = absurd fits
changed_sends p e s (Events.Expire node peer channel) o h fits = absurd fits
changed_sends p e s (Events.Receive node peer number) o h fits = absurd fits
changed_sends p e s (Events.Drain node end) o h fits = omega arith
changed_sends p e s (Events.Unload node end) o h fits = omega arith
changed_sends p e s (Events.Load node end frame) o h fits = omega arith
changed_sends p e s (Events.PageOut node end) o h fits = omega (arith, paged_out_sends p s o)
changed_sends p e s (Events.PageIn node end) o h fits = omega (arith, paged_in_sends p s o)
