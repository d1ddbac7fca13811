-- What an entry does to the messages that an endpoint is to send or has in flight, weighed with their bounces.
use Rattle.std.specs.Prelude.{nat_lt}
use Rattle.std.proofs.Common.{◌≡◌, ℕ, ◌+◌, Bool, true, false, cond, ◌&&◌, List, [], ◌∷◌, drop, Option, Some, None, refl, sym, ap, subst, arith, if◌then◌else◌}
use Rattle.std.specs.List.{sum_by}
use Rattle.std.proofs.lemmas.List.Sums.{sum_by_push, sum_by-cons}
use Rattle.am_names.specs.Rules.{is_transient}
use Rattle.am_names.specs.declared.EndpointId.{EndpointId}
use Rattle.am_names.specs.declared.Serial.{Serial}
use Rattle.am_names.specs.declared.Message.{Message}
use Rattle.am_names.specs.declared.Cause.TheVariants.{NotResident}
use Rattle.am_names.specs.declared.Verdict.{Verdict}
use Rattle.am_names.specs.declared.Verdict.TheVariants as Verdicts
use Rattle.am_office_entries.specs.declared.Call.{Call}
use Rattle.am_office_entries.specs.declared.Call.TheVariants as Calls
use Rattle.am_office_entries.specs.declared.Event.{Event}
use Rattle.am_office_entries.specs.declared.Event.TheVariants as Events
use Rattle.am_office_entries.specs.declared.Received.{Received}
use Rattle.am_office_entries.specs.declared.Received.TheVariants as Got
use Rattle.am_office_entries.specs.declared.Outcome.{Outcome}
use Rattle.am_office_entries.specs.declared.Outcome.TheVariants as Out
use Rattle.am_names.specs.Names.{same_end, has_serial, is_request}
use Rattle.am_model.specs.Choice.{without_first}
use Rattle.am_model.specs.declared.Queued.{Queued}
use Rattle.am_model.specs.declared.Flying.{Flying}
use Rattle.am_model.specs.Endpoint.{State, Body, front, front_of}
use Rattle.am_model.specs.Changes.{called, left, reached, queued, appended, requests_left, without_front, bounces_of, paged_out, paged_in, changed, put}
use Rattle.am_model.specs.Changes.{received, expired, bound, flying_of, without_flight, requeued_flight, with_marked, marked}
use Rattle.am_office_entries.specs.Entries.{accepted_by}
use Rattle.am_model.specs.History.{judged}
use Rattle.am_model.proofs.Queues.{Judged}
use Rattle.am_model.proofs.Valid.{front_bounces}
use Rattle.am_laws.proofs.Waiting.{IsFront}
use Rattle.am_laws.proofs.Sent.{FitsSend}

abbrev pub Weight : Type 0
Weight = Message → ℕ → ℕ

abbrev pub queue_weight : Weight → List Queued → ℕ
queue_weight v queue = sum_by (λ (q : Queued). v q.message q.bounces) queue

abbrev pub flight_weight : Weight → List Flying → ℕ
flight_weight v flying = sum_by (λ (f : Flying). v f.message f.bounces) flying

-- of all that is to be sent or in flight
abbrev pub aloft : Weight → Body → ℕ
aloft v b = queue_weight v b.requests + queue_weight v b.replies + flight_weight v b.in_flight

abbrev pub one_weight : Weight → Option Queued → ℕ
one_weight v None = 0
one_weight v (Some q) = v q.message q.bounces

abbrev pub as_queued : Option Flying → Option Queued
as_queued None = None
as_queued (Some f) = Some (record { message = f.message; bounces = f.bounces })

abbrev pub rebounced : ℕ → Option Flying → Option Queued
rebounced bounces None = None
rebounced bounces (Some f) = Some (record { message = f.message; bounces = bounces })

abbrev pub newly : Option Message → Option Queued
newly None = None
newly (Some m) = Some (record { message = m; bounces = 0 })

abbrev pub parts_by : Received → List Flying → Option Queued
parts_by (Got.Delivered serial) flying = as_queued (flying_of serial flying)
parts_by (Got.Requeued serial cause bounces) flying = as_queued (flying_of serial flying)
parts_by (Got.Returned serial cause) flying = as_queued (flying_of serial flying)
parts_by result flying = None

abbrev pub expiry_parts : Outcome → List Flying → Option Queued
expiry_parts (Out.Delivered serial) flying = as_queued (flying_of serial flying)
expiry_parts (Out.Unknown serial) flying = as_queued (flying_of serial flying)
expiry_parts o flying = None

abbrev pub carry_parts : Outcome → Option Queued → Option Queued
carry_parts (Out.Accepted m) front = front
carry_parts (Out.Requeued m cause bounces) front = front
carry_parts (Out.Returned m cause) front = front
carry_parts o front = None

-- what leaves here
abbrev pub parts : EndpointId → State → Event → Outcome → Option Queued
parts e s (Events.Carry end) o = if same_end e end then carry_parts o (front s) else None
parts e s (Events.Receive node peer number) (Out.Received channel seq attempt r) = parts_by r s.body.in_flight
parts e s (Events.Expire node peer channel) o = expiry_parts o s.body.in_flight
parts e s event o = None

abbrev pub comes_by : Received → List Flying → Option Queued
comes_by (Got.Requeued serial cause bounces) flying = rebounced bounces (flying_of serial flying)
comes_by result flying = None

abbrev pub carry_comes : Outcome → Option Queued
carry_comes (Out.Requeued m cause bounces) = Some (record { message = m; bounces = bounces })
carry_comes o = None

-- what comes to be sent here, anew or again
abbrev pub comes : EndpointId → State → Event → Outcome → Option Queued
comes e s (Events.Call actor end call) o = newly (accepted_by call o)
comes e s (Events.Carry end) o = if same_end e end then carry_comes o else None
comes e s (Events.Receive node peer number) (Out.Received channel seq attempt r) = comes_by r s.body.in_flight
comes e s event o = None

-- one leaves at most, and one comes at most
pub record Moves (old new : Body) (gone come : Option Queued) : Type 0 where
  pub rest : Body
  pub leaves : (v : Weight) → aloft v rest + one_weight v gone ≡ aloft v old
  pub comes : (v : Weight) → aloft v new ≡ aloft v rest + one_weight v come

pub stays : (b : Body) → Moves b b None None
stays b = record { rest = b; leaves = λ v. omega arith; comes = λ v. omega arith }

both_appended : (v : Weight) (m : Message) (bounces : ℕ) (requests replies : List Queued) (is : Bool) →
    queue_weight v (appended is m bounces requests) + queue_weight v (appended (if is then false else true) m bounces replies) ≡ queue_weight v requests +
    queue_weight v replies + v m bounces
both_appended v m bounces requests replies true = omega (
  arith,
  sum_by_push (λ (q : Queued). v q.message q.bounces) requests (record {
    message = m;
    bounces = bounces;
  }),
)
both_appended v m bounces requests replies false = omega (
  arith,
  sum_by_push (λ (q : Queued). v q.message q.bounces) replies (record {
    message = m;
    bounces = bounces;
  }),
)

queued_weighs : (v : Weight) (m : Message) (bounces : ℕ) (b : Body) → aloft v (queued m bounces b) ≡ aloft v b + v m bounces
queued_weighs v m bounces b = omega (arith, both_appended v m bounces b.requests b.replies (is_request m))

called_moves : (s : State) (c : Call) (o : Outcome) → Moves s.body (called s c o).body None (newly (accepted_by c o))
called_moves s (Calls.Request index handler words) (Out.Requested m) = record {
  rest = s.body;
  leaves = λ v. omega arith;
  comes = λ v. omega (arith, both_appended v m 0 s.body.requests s.body.replies (is_request m));
}
called_moves s Calls.Poll (Out.Zero serial why) = record { rest = s.body; leaves = λ v. omega arith; comes = λ v. omega arith }
called_moves s Calls.Poll (Out.Ran handler m None) = record { rest = s.body; leaves = λ v. omega arith; comes = λ v. omega arith }
called_moves s Calls.Poll (Out.Ran handler m (Some reply)) = record {
  rest = s.body;
  leaves = λ v. omega arith;
  comes = λ v. omega (arith, both_appended v reply 0 s.body.requests s.body.replies (is_request reply));
}
called_moves s (Calls.SetTag tag) Out.Done = record { rest = s.body; leaves = λ v. omega arith; comes = λ v. omega arith }
called_moves s (Calls.Map index name tag credits) Out.Done = record { rest = s.body; leaves = λ v. omega arith; comes = λ v. omega arith }
called_moves s (Calls.Unmap index) Out.Done = record { rest = s.body; leaves = λ v. omega arith; comes = λ v. omega arith }
called_moves s (Calls.SetHandler index kind) Out.Done = record { rest = s.body; leaves = λ v. omega arith; comes = λ v. omega arith }
called_moves s (Calls.GiveUp serial) Out.Done = record { rest = s.body; leaves = λ v. omega arith; comes = λ v. omega arith }
called_moves s Calls.Close Out.Done = stays s.body
called_moves s c o = stays s.body

front_weighs : (v : Weight) (replies requests : List Queued) (q : Queued) → front_of replies requests ≡ Some q →
    queue_weight v (requests_left replies requests) + queue_weight v (drop 1 replies) + v q.message q.bounces ≡ queue_weight v requests + queue_weight v replies
front_weighs v (r ∷ replies) requests q e = let same : r ≡ q = cc in rw (← same) (omega (arith, sum_by-cons (λ (y : Queued). v y.message y.bounces) r replies))
front_weighs v [] (r ∷ requests) q e = let same : r ≡ q = cc in rw (← same) (omega (arith, sum_by-cons (λ (y : Queued). v y.message y.bounces) r requests))
front_weighs v [] [] q e = absurd (cc)

front_leaves : (v : Weight) (s : State) (q : Queued) → front s ≡ Some q → aloft v (without_front s.body) + v q.message q.bounces ≡ aloft v s.body
front_leaves v s q e = omega (arith, front_weighs v s.body.replies s.body.requests q e)

pub marked_weighs : (v : Weight) (about : Option Serial) (flying : List Flying) → flight_weight v (with_marked about flying) ≡ flight_weight v flying
marked_weighs v None flying = refl
marked_weighs v (Some s) [] = refl
marked_weighs v (Some s) (f ∷ flying) =
    omega (
      arith,
      marked_weighs v (Some s) flying,
      sum_by-cons (λ (g : Flying). v g.message g.bounces) f flying,
      sum_by-cons (λ (g : Flying). v g.message g.bounces) (marked s f) (with_marked (Some s) flying),
    )

put_weighs : (v : Weight) (m : Message) (s : State) → aloft v (put m s).body ≡ aloft v s.body
put_weighs v m s = omega (arith, marked_weighs v m.about s.body.in_flight)

reached_weighs : (v : Weight) (e : EndpointId) (s : State) (o : Outcome) → aloft v (reached e s o).body ≡ aloft v s.body
reached_weighs v e s (Out.Accepted m) = by_test (same_end e m.dest)
  where
    by_test : (b : Bool) → aloft v (if b then put m s else s).body ≡ aloft v s.body
    by_test true = put_weighs v m s
    by_test false = refl
reached_weighs v e s o = refl

-- the front message of the source is judged
judged_moves : (e : EndpointId) (s : State) (q : Queued) (limit bounces : ℕ) (verdict : Verdict) → front s ≡ Some q →
    let o = judged limit q.message bounces verdict in Moves s.body (reached e (left s o) o).body (carry_parts o (front s)) (carry_comes o)
judged_moves e s q limit bounces Verdicts.Accepted at =
    record {
      rest = without_front s.body;
      leaves = λ v. omega (arith, front_leaves v s q at, ap (one_weight v) at);
      comes = λ v. omega (arith, reached_weighs v e (left s (Out.Accepted q.message)) (Out.Accepted q.message));
    }
judged_moves e s q limit bounces (Verdicts.Refused cause) at = by_again (is_transient cause && nat_lt bounces limit)
  where
    by_again : (b : Bool) → let o = if b then Out.Requeued q.message cause (bounces + 1) else Out.Returned q.message cause in
        Moves s.body (reached e (left s o) o).body (carry_parts o (front s)) (carry_comes o)
    by_again true =
        record {
          rest = without_front s.body;
          leaves = λ v. omega (arith, front_leaves v s q at, ap (one_weight v) at);
          comes = λ v. queued_weighs v q.message (bounces + 1) (without_front s.body);
        }
    by_again false =
        record { rest = without_front s.body; leaves = λ v. omega (arith, front_leaves v s q at, ap (one_weight v) at); comes = λ v. omega arith }

carried_moves : (e : EndpointId) (s : State) (o : Outcome) (at_source : Bool) → (at_source ≡ true → Judged s o) →
    Moves s.body (reached e (if at_source then left s o else s) o).body (if at_source then carry_parts o (front s) else None)
    (if at_source then carry_comes o else None)
carried_moves e s o true fits =
    let j = fits refl in
    subst (λ (w : Outcome). Moves s.body (reached e (left s w) w).body (carry_parts w (front s)) (carry_comes w)) (sym j.is_judged)
    (judged_moves e s j.queued j.limit j.bounces j.verdict j.is_front)
carried_moves e s o false fits = record { rest = s.body; leaves = λ v. omega arith; comes = λ v. omega (arith, reached_weighs v e s o) }

pub landed_weighs : (v : Weight) (serial : Serial) (flying : List Flying) →
    flight_weight v (without_first (λ (f : Flying). has_serial serial f.message) flying) + one_weight v (as_queued (flying_of serial flying)) ≡ flight_weight v
    flying
landed_weighs v serial [] = refl
landed_weighs v serial (f ∷ flying) = by_test (has_serial serial f.message) (landed_weighs v serial flying)
  where
    by_test : (b : Bool) → flight_weight v (without_first (λ (g : Flying). has_serial serial g.message) flying) + one_weight v
        (as_queued (flying_of serial flying)) ≡ flight_weight v flying →
        flight_weight v (cond b flying (f ∷ without_first (λ (g : Flying). has_serial serial g.message) flying)) + one_weight v
        (as_queued (cond b (Some f) (flying_of serial flying))) ≡ flight_weight v (f ∷ flying)
    by_test true more = omega (arith, sum_by-cons (λ (g : Flying). v g.message g.bounces) f flying)
    by_test false more = omega (
      arith,
      more,
      sum_by-cons (λ (g : Flying). v g.message g.bounces) f flying,
      sum_by-cons (λ (g : Flying). v g.message g.bounces) f (without_first (λ (g : Flying). has_serial serial g.message) flying),
    )

landed_leaves : (v : Weight) (serial : Serial) (b : Body) → aloft v (without_flight serial b) + one_weight v (as_queued (flying_of serial b.in_flight)) ≡ aloft
    v b
landed_leaves v serial b = omega (arith, landed_weighs v serial b.in_flight)

requeued_weighs : (v : Weight) (flight : Option Flying) (bounces : ℕ) (b : Body) →
    aloft v (requeued_flight flight bounces b) ≡ aloft v b + one_weight v (rebounced bounces flight)
requeued_weighs v None bounces b = omega arith
requeued_weighs v (Some f) bounces b = omega (arith, both_appended v f.message bounces b.requests b.replies (is_request f.message))

received_moves : (e : EndpointId) (s : State) (r : Received) → Moves s.body (received e s r).body (parts_by r s.body.in_flight) (comes_by r s.body.in_flight)
received_moves e s (Got.Accepted m answer) = record { rest = s.body; leaves = λ v. omega arith; comes = λ v. omega (arith, put_weighs v m s) }
received_moves e s (Got.Refused m NotResident answer) = stays s.body
received_moves e s (Got.Delivered serial) = record {
  rest = without_flight serial s.body;
  leaves = λ v. landed_leaves v serial s.body;
  comes = λ v. omega arith;
}
received_moves e s (Got.Requeued serial cause bounces) =
    record {
      rest = without_flight serial s.body;
      leaves = λ v. landed_leaves v serial s.body;
      comes = λ v. requeued_weighs v (flying_of serial s.body.in_flight) bounces (without_flight serial s.body);
    }
received_moves e s (Got.Returned serial cause) = record {
  rest = without_flight serial s.body;
  leaves = λ v. landed_leaves v serial s.body;
  comes = λ v. omega arith;
}
received_moves e s r = stays s.body

expired_moves : (s : State) (o : Outcome) → Moves s.body (expired s o).body (expiry_parts o s.body.in_flight) None
expired_moves s (Out.Delivered serial) = record { rest = without_flight serial s.body; leaves = λ v. landed_leaves v serial s.body; comes = λ v. omega arith }
expired_moves s (Out.Unknown serial) = record { rest = without_flight serial s.body; leaves = λ v. landed_leaves v serial s.body; comes = λ v. omega arith }
expired_moves s o = stays s.body

-- a bind moves the front message into flight
bound_weighs : (v : Weight) (s : State) (o : Outcome) → IsFront s o → aloft v (bound s o).body ≡ aloft v s.body
bound_weighs v s (Out.Sent m peer channel seq attempt number) f =
    let is : Some m ≡ Some f.queued.message = f.is_sent in
    let same : m ≡ f.queued.message = cc in
    let weight : v m (bounces_of s.body.replies s.body.requests) ≡ v f.queued.message f.queued.bounces =
    (λ i. v (same i) (front_bounces s.body.replies s.body.requests f.queued f.is_front i)) in
    omega (
      arith,
      front_leaves v s f.queued f.is_front,
      weight,
      sum_by_push (λ (g : Flying). v g.message g.bounces) s.body.in_flight (record {
        message = m;
        bounces = bounces_of s.body.replies s.body.requests;
        answered = false;
      }),
    )
bound_weighs v s o f = refl

out_weighs : (v : Weight) (s : State) (o : Outcome) → aloft v (paged_out s o).body ≡ aloft v s.body
out_weighs v s Out.Done = refl
out_weighs v s o = refl

in_weighs : (v : Weight) (s : State) (o : Outcome) → aloft v (paged_in s o).body ≡ aloft v s.body
in_weighs v s Out.Done = refl
in_weighs v s o = refl

same_weight : (old new : Body) → ((v : Weight) → aloft v new ≡ aloft v old) → Moves old new None None
same_weight old new h = record { rest = old; leaves = λ v. omega arith; comes = λ v. omega (arith, h v) }

-- an entry that touches an endpoint
pub entry_moves : (e : EndpointId) (s : State) (event : Event) (o : Outcome) → FitsSend e s event o →
    Moves s.body (changed e s event o).body (parts e s event o) (comes e s event o)
entry_moves e s (Events.Call actor end call) o fits = called_moves s call o
entry_moves e s (Events.Want actor end) o fits = stays s.body
entry_moves e s (Events.Carry end) o fits = carried_moves e s o (same_end e end) fits
entry_moves e s (Events.Bind node end) o fits = same_weight s.body (bound s o).body (λ v. bound_weighs v s o fits)
entry_moves e s (Events.Expire node peer channel) o fits = expired_moves s o
entry_moves e s (Events.Receive node peer number) (Out.Received channel seq attempt r) fits = received_moves e s r
entry_moves e s (Events.Receive node peer number) o fits = stays s.body
entry_moves e s (Events.Drain node end) o fits = stays s.body
entry_moves e s (Events.Unload node end) o fits = stays s.body
entry_moves e s (Events.Load node end frame) o fits = stays s.body
entry_moves e s (Events.PageOut node end) o fits = same_weight s.body (paged_out s o).body (λ v. out_weighs v s o)
entry_moves e s (Events.PageIn node end) o fits = same_weight s.body (paged_in s o).body (λ v. in_weighs v s o)
