-- What an entry does to the messages that an endpoint has received.
use Rattle.std.specs.Prelude.{nat_le}
use Rattle.std.proofs.Common.{◌≡◌, ℕ, ◌+◌, ◌≤◌, Bool, true, false, cond, ◌||◌, List, [], ◌∷◌, Option, Some, None, refl, sym, subst, arith, if◌then◌else◌}
use Rattle.std.specs.List.{count_by, find, list_any}
use Rattle.std.proofs.lemmas.List.Sums.{sum_by_push, sum_by-cons}
use Rattle.am_names.specs.declared.EndpointId.{EndpointId}
use Rattle.am_names.specs.declared.NodeId.{NodeId}
use Rattle.am_names.specs.declared.Message.{Message}
use Rattle.am_names.specs.declared.Cause.TheVariants.{NotResident}
use Rattle.am_office_entries.specs.declared.Call.{Call}
use Rattle.am_office_entries.specs.declared.Call.TheVariants as Calls
use Rattle.am_office_entries.specs.declared.Event.{Event}
use Rattle.am_office_entries.specs.declared.Event.TheVariants as Events
use Rattle.am_office_entries.specs.declared.Received.{Received}
use Rattle.am_office_entries.specs.declared.Received.TheVariants as Got
use Rattle.am_office_entries.specs.declared.Outcome.{Outcome}
use Rattle.am_office_entries.specs.declared.Outcome.TheVariants as Out
use Rattle.am_names.specs.Names.{same_end, is_reply}
use Rattle.am_model.specs.Choice.{without_first}
use Rattle.am_model.specs.declared.Notice.{Notice}
use Rattle.am_model.specs.Endpoint.{State, replies_held}
use Rattle.am_model.specs.Calls.{outcome_of_call, poll, poll_received, poll_requests}
use Rattle.am_model.specs.Changes.{called, left, carried, received, expired, bound, paged_out, paged_in, changed, put}
use Rattle.am_office_entries.specs.Entries.{run_by, put_in, ends_touched, touched_by_result, passes}
use Rattle.am_model.specs.PostOffice.{only_if}

abbrev pub bit : Bool → ℕ
bit b = cond b 1 0

pub bit_at_most : (b : Bool) → bit b ≤ 1
bit_at_most true = omega arith
bit_at_most false = omega arith

-- one if the message is there and passes
abbrev pub weight : (Message → Bool) → Option Message → ℕ
weight p m = bit (passes p m)

abbrev pub held : (Message → Bool) → State → ℕ
held p s = count_by p s.body.received

-- a list and one more element before it
count_cons : {X : Type 0} (p : X → Bool) (x : X) (xs : List X) → count_by p (x ∷ xs) ≡ cond (p x) 1 0 + count_by p xs
count_cons p x xs = sum_by-cons (λ y. cond (p y) 1 0) x xs

find_counts_at : (p test : Message → Bool) (x : Message) (xs : List Message) (m : Message) (b : Bool) →
    (find test xs ≡ Some m → count_by p (without_first test xs) + cond (p m) 1 0 ≡ count_by p xs) → cond b (Some x) (find test xs) ≡ Some m →
    count_by p (cond b xs (x ∷ without_first test xs)) + cond (p m) 1 0 ≡ count_by p (x ∷ xs)
find_counts_at p test x xs m true more f = let same : x ≡ m = cc in rw (← same) (omega (arith, count_cons p x xs))
find_counts_at p test x xs m false more f = omega (arith, more f, count_cons p x xs, count_cons p x (without_first test xs))

pub find_counts : (p test : Message → Bool) (xs : List Message) (m : Message) → find test xs ≡ Some m →
    count_by p (without_first test xs) + cond (p m) 1 0 ≡ count_by p xs
find_counts p test [] m e = absurd (cc)
find_counts p test (x ∷ xs) m e = find_counts_at p test x xs m (test x) (λ f. find_counts p test xs m f) e

-- a call that is no poll leaves them
received_not_poll : (p : Message → Bool) (s : State) (c : Call) (o : Outcome) → run_by c o ≡ None → held p (called s c o) ≡ held p s
received_not_poll p s (Calls.Request index handler words) (Out.Requested m) e = refl
received_not_poll p s Calls.Poll (Out.Zero serial why) e = refl
received_not_poll p s Calls.Poll (Out.Ran handler m None) e = absurd (cc)
received_not_poll p s Calls.Poll (Out.Ran handler m (Some reply)) e = absurd (cc)
received_not_poll p s (Calls.SetTag tag) Out.Done e = refl
received_not_poll p s (Calls.Map index name tag credits) Out.Done e = refl
received_not_poll p s (Calls.Unmap index) Out.Done e = refl
received_not_poll p s (Calls.SetHandler index kind) Out.Done e = refl
received_not_poll p s (Calls.GiveUp serial) Out.Done e = refl
received_not_poll p s Calls.Close Out.Done e = refl
received_not_poll p s c o e = refl

polled_front : (p : Message → Bool) (s : State) (m : Message) (ms : List Message) (handler : Option ℕ) (reply : Message) (full : Bool) →
    s.body.received ≡ m ∷ ms → held p (called s Calls.Poll (if full then Out.Blocked else Out.Ran handler m (Some reply))) + weight p
    (run_by Calls.Poll (if full then Out.Blocked else Out.Ran handler m (Some reply))) ≡ held p s
polled_front p s m ms handler reply true is = omega arith
polled_front p s m ms handler reply false is = rw is (omega (arith, count_cons p m ms))

-- where no notice and no answer is there
polled_request : (p : Message → Bool) (e : EndpointId) (s : State) (ms : List Message) → s.body.received ≡ ms →
    held p (called s Calls.Poll (poll_requests e s ms)) + weight p (run_by Calls.Poll (poll_requests e s ms)) ≡ held p s
polled_request p e s [] is = omega arith
polled_request p e s (m ∷ ms) is = polled_front p s m ms (Some m.handler) _ (nat_le 16 (replies_held s.body)) is

polled_received : (p : Message → Bool) (e : EndpointId) (s : State) (found : Option Message) → find is_reply s.body.received ≡ found →
    held p (called s Calls.Poll (poll_received e s found)) + weight p (run_by Calls.Poll (poll_received e s found)) ≡ held p s
polled_received p e s (Some m) is = find_counts p is_reply s.body.received m is
polled_received p e s None is = polled_request p e s s.body.received refl

polled : (p : Message → Bool) (e : EndpointId) (s : State) (notices : List Notice) →
    held p (called s Calls.Poll (poll e s notices)) + weight p (run_by Calls.Poll (poll e s notices)) ≡ held p s
polled p e s (notice ∷ notices) = omega arith
polled p e s [] = polled_received p e s (find is_reply s.body.received) refl

-- what comes of a call that is made at the endpoint
pub called_received : (pool : Option ℕ) (p : Message → Bool) (e : EndpointId) (s : State) (c : Call) →
    held p (called s c (outcome_of_call pool e s c)) + weight p (run_by c (outcome_of_call pool e s c)) ≡ held p s
called_received pool p e s Calls.Poll = polled p e s s.body.notices
called_received pool p e s (Calls.Request index handler words) =
    omega (arith, received_not_poll p s (Calls.Request index handler words) (outcome_of_call pool e s (Calls.Request index handler words)) refl)
called_received pool p e s (Calls.SetTag tag) = omega (arith, received_not_poll p s (Calls.SetTag tag) (outcome_of_call pool e s (Calls.SetTag tag)) refl)
called_received pool p e s (Calls.Map index name tag credits) =
    omega (arith, received_not_poll p s (Calls.Map index name tag credits) (outcome_of_call pool e s (Calls.Map index name tag credits)) refl)
called_received pool p e s (Calls.Unmap index) = omega (arith, received_not_poll p s (Calls.Unmap index) (outcome_of_call pool e s (Calls.Unmap index)) refl)
called_received pool p e s (Calls.SetHandler index kind) = omega (
  arith,
  received_not_poll p s (Calls.SetHandler index kind) (outcome_of_call pool e s (Calls.SetHandler index kind)) refl,
)
called_received pool p e s (Calls.GiveUp serial) = omega (
  arith,
  received_not_poll p s (Calls.GiveUp serial) (outcome_of_call pool e s (Calls.GiveUp serial)) refl,
)
called_received pool p e s Calls.Close = omega (arith, received_not_poll p s Calls.Close (outcome_of_call pool e s Calls.Close) refl)
called_received pool p e s (Calls.Test mask) = omega (arith, received_not_poll p s (Calls.Test mask) (outcome_of_call pool e s (Calls.Test mask)) refl)

-- what an endpoint runs here
abbrev pub run_at : EndpointId → Event → Outcome → Option Message
run_at e (Events.Call actor end call) o = if same_end e end then run_by call o else None
run_at e event o = None

-- what is put at an endpoint here
abbrev pub put_at : EndpointId → Event → Outcome → Option Message
put_at e event o = only_if (λ (m : Message). same_end e m.dest) (put_in event o)

-- the outcome of a call is the one that it has
abbrev pub FitsCall : Option ℕ → State → Event → Outcome → Type 0
FitsCall pool s (Events.Call actor end call) o = o ≡ outcome_of_call pool end s call
FitsCall pool s event o = Unit {0}

pub one_touched : (b : Bool) → (b || false) ≡ true → b ≡ true
one_touched true h = refl
one_touched false h = h

held_put : (p : Message → Bool) (s : State) (m : Message) → held p (put m s) ≡ held p s + cond (p m) 1 0
held_put p s m = sum_by_push (λ y. cond (p y) 1 0) s.body.received m

carry_accepted : (p : Message → Bool) (s : State) (m : Message) (at_source at_dest : Bool) →
    held p (if at_dest then put m (if at_source then left s (Out.Accepted m) else s) else (if at_source then left s (Out.Accepted m) else s)) ≡ held p s +
    weight p (if at_dest then Some m else None)
carry_accepted p s m true true = held_put p (left s (Out.Accepted m)) m
carry_accepted p s m false true = held_put p s m
carry_accepted p s m true false = omega arith
carry_accepted p s m false false = omega arith

carry_left : (p : Message → Bool) (s : State) (o : Outcome) (at_source : Bool) → held p (if at_source then left s o else s) ≡ held p s
carry_left p s (Out.Accepted m) true = refl
carry_left p s (Out.Requeued m cause used) true = refl
carry_left p s (Out.Returned m cause) true = refl
carry_left p s o true = refl
carry_left p s o false = refl

carried_received : (p : Message → Bool) (e from : EndpointId) (s : State) (o : Outcome) →
    held p (carried e from s o) + 0 ≡ held p s + weight p (put_at e (Events.Carry from) o)
carried_received p e from s (Out.Accepted m) = omega (arith, carry_accepted p s m (same_end e from) (same_end e m.dest))
carried_received p e from s o = omega (arith, carry_left p s o (same_end e from))

result_received : (p : Message → Bool) (e : EndpointId) (s : State) (node peer : NodeId) (number channel seq attempt : ℕ) (r : Received) →
    list_any (same_end e) (touched_by_result r) ≡ true → held p (received e s r) + 0 ≡ held p s + weight p
    (put_at e (Events.Receive node peer number) (Out.Received channel seq attempt r))
result_received p e s node peer number channel seq attempt (Got.Accepted m answer) h =
    let at : same_end e m.dest ≡ true = one_touched (same_end e m.dest) h in rw at (omega (arith, held_put p s m))
result_received p e s node peer number channel seq attempt (Got.Refused m NotResident answer) h = omega arith
result_received p e s node peer number channel seq attempt (Got.Delivered serial) h = omega arith
result_received p e s node peer number channel seq attempt (Got.Requeued serial cause used) h = omega arith
result_received p e s node peer number channel seq attempt (Got.Returned serial cause) h = omega arith
result_received p e s node peer number channel seq attempt r h = omega arith

expired_received : (p : Message → Bool) (s : State) (o : Outcome) → held p (expired s o) ≡ held p s
expired_received p s (Out.Delivered serial) = refl
expired_received p s (Out.Unknown serial) = refl
expired_received p s o = refl

bound_received : (p : Message → Bool) (s : State) (o : Outcome) → held p (bound s o) ≡ held p s
bound_received p s (Out.Sent m peer channel seq attempt number) = refl
bound_received p s o = refl

paged_out_received : (p : Message → Bool) (s : State) (o : Outcome) → held p (paged_out s o) ≡ held p s
paged_out_received p s Out.Done = refl
paged_out_received p s o = refl

paged_in_received : (p : Message → Bool) (s : State) (o : Outcome) → held p (paged_in s o) ≡ held p s
paged_in_received p s Out.Done = refl
paged_in_received p s o = refl

-- an entry that touches an endpoint: what it held and what is put there is what it holds and what it runs
pub changed_received : (pool : Option ℕ) (p : Message → Bool) (e : EndpointId) (s : State) (event : Event) (o : Outcome) →
    list_any (same_end e) (ends_touched event o) ≡ true → FitsCall pool s event o →
    held p (changed e s event o) + weight p (run_at e event o) ≡ held p s + weight p (put_at e event o)
changed_received pool p e s (Events.Call actor end call) o h fits =
    let at : same_end e end ≡ true = one_touched (same_end e end) h in
    rw at (subst (λ (v : Outcome). held p (called s call v) + weight p (run_by call v) ≡ held p s + 0) (sym fits)
    (omega (arith, called_received pool p end s call)))
changed_received pool p e s (Events.Want actor end) o h fits = omega arith
changed_received pool p e s (Events.Carry end) o h fits = carried_received p e end s o
changed_received pool p e s (Events.Bind node end) o h fits = omega (arith, bound_received p s o)
changed_received pool p e s (Events.Expire node peer channel) o h fits = omega (arith, expired_received p s o)
changed_received pool p e s (Events.Receive node peer number) (Out.Received channel seq attempt result) h fits =
    result_received p e s node peer number channel seq attempt result h
changed_received pool p e s (Events.Receive node peer number) o h fits = absurd (cc)
changed_received pool p e s (Events.Drain node end) o h fits = omega arith
changed_received pool p e s (Events.Unload node end) o h fits = omega arith
changed_received pool p e s (Events.Load node end frame) o h fits = omega arith
changed_received pool p e s (Events.PageOut node end) o h fits = omega (arith, paged_out_received p s o)
changed_received pool p e s (Events.PageIn node end) o h fits = omega (arith, paged_in_received p s o)
