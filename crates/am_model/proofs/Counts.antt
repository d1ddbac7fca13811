-- The counts of each source are one, two, three and so on.
use Rattle.std.specs.Prelude.{nat_le, MatchOption}
use Rattle.std.proofs.Common.{◌≡◌, ℕ, ◌+◌, ◌≤◌, Bool, true, false, cond, List, [], ◌∷◌, ◌++◌, Option, Some, None, refl, sym, ap, ◌∙◌, subst, arith}
use Rattle.std.proofs.Common.{if◌then◌else◌}
use Rattle.std.specs.List.{find, list_any}
use Rattle.am_names.specs.declared.EndpointId.{EndpointId}
use Rattle.am_names.specs.declared.Serial.{Serial}
use Rattle.am_names.specs.declared.Message.{Message}
use Rattle.am_names.specs.declared.Words.{Words}
use Rattle.am_names.specs.declared.Cause.TheVariants.{NotResident}
use Rattle.am_office_entries.specs.declared.HandlerKind.{HandlerKind}
use Rattle.am_office_entries.specs.declared.HandlerKind.TheVariants.{Note, Echo, Add}
use Rattle.am_office_entries.specs.declared.Call.{Call}
use Rattle.am_office_entries.specs.declared.Call.TheVariants as Calls
use Rattle.am_office_entries.specs.declared.Refusal.{Refusal}
use Rattle.am_office_entries.specs.declared.Event.{Event}
use Rattle.am_office_entries.specs.declared.Event.TheVariants as Events
use Rattle.am_office_entries.specs.declared.Received.{Received}
use Rattle.am_office_entries.specs.declared.Received.TheVariants as Got
use Rattle.am_office_entries.specs.declared.Outcome.{Outcome}
use Rattle.am_office_entries.specs.declared.Outcome.TheVariants as Out
use Rattle.am_office_entries.specs.declared.Entry.{Entry}
use Rattle.am_names.specs.Names.{same_end, is_reply}
use Rattle.am_model.specs.declared.Mapping.{Mapping}
use Rattle.am_model.specs.declared.Notice.{Notice}
use Rattle.am_model.specs.Endpoint.{State, replies_held, entry_at}
use Rattle.am_model.specs.Calls.{outcome_of_call, new_serial, new_request, request_refusal, unless, poll, poll_received, poll_requests, answer}
use Rattle.am_model.specs.Changes.{called, left, carried, received, expired, bound, paged_out, paged_in, changed, put}
use Rattle.am_office_entries.specs.Entries.{touches, ends_touched, accepted_by, accepted_in, accepted_of, passes}
use Rattle.am_model.specs.Layout.{Layout}
use Rattle.am_model.specs.History.{state_of, MayFollow, outcome_of}
use Rattle.am_model.specs.PostOffice.{times, is_from, HasNextCount}
use Rattle.am_model.proofs.Each.{state_of_push}
use Rattle.am_model.proofs.Received.{bit, weight, one_touched, FitsCall}
use Rattle.am_model.proofs.Books.{role_push, not_touched, fits_call}

-- the message, if any, has this serial
abbrev pub HasSerial : Serial → Option Message → Type 0
HasSerial s None = Unit {0}
HasSerial s (Some m) = m.serial ≡ s

answer_serial : (e : EndpointId) (s : State) (m : Message) (kind : Option HandlerKind) → (answer e s m kind).serial ≡ new_serial e s
answer_serial e s m (Some (Echo to)) = refl
answer_serial e s m (Some (Add to)) = refl
answer_serial e s m (Some Note) = refl
answer_serial e s m None = refl

request_serial : (e : EndpointId) (s : State) (index handler : ℕ) (words : Words) (refusal : Option Refusal) (mapping : Option Mapping) →
    HasSerial (new_serial e s) (accepted_by (Calls.Request index handler words) (unless refusal (new_request e s mapping handler words)))
request_serial e s index handler words (Some refusal) mapping = tt
request_serial e s index handler words None None = tt
request_serial e s index handler words None (Some mapping) = refl

front_serial : (e : EndpointId) (s : State) (m : Message) (full : Bool) →
    HasSerial (new_serial e s) (accepted_by Calls.Poll (if full then Out.Blocked else Out.Ran (Some m.handler) m
    (Some (answer e s m (entry_at s.body.handlers m.handler)))))
front_serial e s m true = tt
front_serial e s m false = answer_serial e s m (entry_at s.body.handlers m.handler)

poll_serial : (e : EndpointId) (s : State) (notices : List Notice) (found : Option Message) (ms : List Message) → found ≡ find is_reply s.body.received →
    ms ≡ s.body.received → HasSerial (new_serial e s) (accepted_by Calls.Poll (poll e s notices))
poll_serial e s (notice ∷ notices) found ms is at = tt
poll_serial e s [] found ms is at = rw (← is) (by_found found)
  where
    by_list : (xs : List Message) → HasSerial (new_serial e s) (accepted_by Calls.Poll (poll_requests e s xs))
    by_list [] = tt
    by_list (m ∷ xs) = front_serial e s m (nat_le 16 (replies_held s.body))

    by_found : (f : Option Message) → HasSerial (new_serial e s) (accepted_by Calls.Poll (poll_received e s f))
    by_found (Some m) = tt
    by_found None = by_list s.body.received

-- what a call accepts has the next serial
pub call_serial : (pool : Option ℕ) (e : EndpointId) (s : State) (c : Call) → HasSerial (new_serial e s) (accepted_by c (outcome_of_call pool e s c))
call_serial pool e s (Calls.Request index handler words) = request_serial e s index handler words (request_refusal pool s index) (entry_at s.body.mapped index)
call_serial pool e s Calls.Poll = poll_serial e s s.body.notices (find is_reply s.body.received) s.body.received refl refl
call_serial pool e s (Calls.SetTag tag) = tt
call_serial pool e s (Calls.Map index name tag credits) = tt
call_serial pool e s (Calls.Unmap index) = tt
call_serial pool e s (Calls.SetHandler index kind) = tt
call_serial pool e s (Calls.GiveUp serial) = tt
call_serial pool e s Calls.Close = tt
call_serial pool e s (Calls.Test mask) = tt

-- whether a message is there
abbrev pub any : Message → Bool
any m = true

pub called_counts : (s : State) (c : Call) (o : Outcome) → (called s c o).body.accepted ≡ s.body.accepted + weight any (accepted_by c o)
called_counts s (Calls.Request index handler words) (Out.Requested m) = refl
called_counts s Calls.Poll (Out.Zero serial why) = omega arith
called_counts s Calls.Poll (Out.Ran handler m None) = omega arith
called_counts s Calls.Poll (Out.Ran handler m (Some reply)) = refl
called_counts s (Calls.SetTag tag) Out.Done = omega arith
called_counts s (Calls.Map index name tag credits) Out.Done = omega arith
called_counts s (Calls.Unmap index) Out.Done = omega arith
called_counts s (Calls.SetHandler index kind) Out.Done = omega arith
called_counts s (Calls.GiveUp serial) Out.Done = omega arith
called_counts s Calls.Close Out.Done = omega arith
called_counts s c o = omega arith

-- a call accepts one message at most
pub call_counts_one : (s : State) (c : Call) (o : Outcome) → (called s c o).body.accepted ≤ s.body.accepted + 1
call_counts_one s c o = omega (arith, called_counts s c o, at_most_one (passes any (accepted_by c o)))
  where
    at_most_one : (b : Bool) → bit b ≤ 1
    at_most_one true = omega arith
    at_most_one false = omega arith

-- an entry that is no call accepts nothing and keeps the count
carried_counts : (s : State) (m : Message) (at_source at_dest : Bool) →
    (if at_dest then put m (if at_source then left s (Out.Accepted m) else s) else (if at_source then left s (Out.Accepted m) else s)).body.accepted ≡
    s.body.accepted
carried_counts s m true true = refl
carried_counts s m true false = refl
carried_counts s m false true = refl
carried_counts s m false false = refl

left_counts : (s : State) (o : Outcome) (at_source : Bool) → (if at_source then left s o else s).body.accepted ≡ s.body.accepted
left_counts s (Out.Accepted n) true = refl
left_counts s (Out.Requeued n cause used) true = refl
left_counts s (Out.Returned n cause) true = refl
left_counts s o true = refl
left_counts s o false = refl

carry_counts : (e from : EndpointId) (s : State) (o : Outcome) → (carried e from s o).body.accepted ≡ s.body.accepted
carry_counts e from s (Out.Accepted n) = carried_counts s n (same_end e from) (same_end e n.dest)
carry_counts e from s o = left_counts s o (same_end e from)

received_counts : (e : EndpointId) (s : State) (r : Received) → (received e s r).body.accepted ≡ s.body.accepted
received_counts e s (Got.Accepted m answer) = refl
received_counts e s (Got.Refused m NotResident answer) = refl
received_counts e s (Got.Delivered serial) = refl
received_counts e s (Got.Requeued serial cause used) = refl
received_counts e s (Got.Returned serial cause) = refl
received_counts e s r = refl

expired_counts : (s : State) (o : Outcome) → (expired s o).body.accepted ≡ s.body.accepted
expired_counts s (Out.Delivered serial) = refl
expired_counts s (Out.Unknown serial) = refl
expired_counts s o = refl

bound_counts : (s : State) (o : Outcome) → (bound s o).body.accepted ≡ s.body.accepted
bound_counts s (Out.Sent m peer channel seq attempt number) = refl
bound_counts s o = refl

paged_out_counts : (s : State) (o : Outcome) → (paged_out s o).body.accepted ≡ s.body.accepted
paged_out_counts s Out.Done = refl
paged_out_counts s o = refl

paged_in_counts : (s : State) (o : Outcome) → (paged_in s o).body.accepted ≡ s.body.accepted
paged_in_counts s Out.Done = refl
paged_in_counts s o = refl

-- whether an entry accepts a message of this source
abbrev pub from_source : EndpointId → Event → Outcome → ℕ
from_source e event o = weight (is_from e) (accepted_in event o)

weight_own : (e end : EndpointId) (count : ℕ) (m : Option Message) → HasSerial (record { source = end; count = count }) m →
    weight (is_from e) m ≡ cond (same_end e end) (weight any m) 0
weight_own e end count None h = by_test (same_end e end)
  where
    by_test : (b : Bool) → ◌≡◌ {A = ℕ} 0 (cond b 0 0)
    by_test true = refl
    by_test false = refl
weight_own e end count (Some m) h = ap (λ (s : Serial). cond (same_end e s.source) 1 0) h

touched_counts : (pool : Option ℕ) (e : EndpointId) (s : State) (event : Event) (o : Outcome) (own : (end : EndpointId) (c : Call) → same_end e end ≡ true →
    HasSerial (new_serial end s) (accepted_by c (outcome_of_call pool end s c))) (fits : FitsCall pool s event o) →
    list_any (same_end e) (ends_touched event o) ≡ true → (changed e s event o).body.accepted ≡ s.body.accepted + from_source e event o
touched_counts pool e s (Events.Call actor end call) o own fits t =
    let at : same_end e end ≡ true = one_touched (same_end e end) t in
    let w : weight (is_from e) (accepted_by call (outcome_of_call pool end s call)) ≡ cond (same_end e end)
    (weight any (accepted_by call (outcome_of_call pool end s call))) 0 = weight_own e end (s.body.accepted + 1) _ (own end call at) in
    subst (λ (v : Outcome). (called s call v).body.accepted ≡ s.body.accepted + weight (is_from e) (accepted_by call v)) (sym fits)
    (rw w (rw at (called_counts s call (outcome_of_call pool end s call))))
touched_counts pool e s (Events.Want actor end) o own fits t = omega arith
touched_counts pool e s (Events.Carry end) o own fits t = omega (arith, carry_counts e end s o)
touched_counts pool e s (Events.Bind node end) o own fits t = omega (arith, bound_counts s o)
touched_counts pool e s (Events.Expire node peer channel) o own fits t = omega (arith, expired_counts s o)
touched_counts pool e s (Events.Receive node peer number) (Out.Received channel seq attempt result) own fits t = omega (arith, received_counts e s result)
touched_counts pool e s (Events.Receive node peer number) o own fits t = omega arith
touched_counts pool e s (Events.Drain node end) o own fits t = omega arith
touched_counts pool e s (Events.Unload node end) o own fits t = omega arith
touched_counts pool e s (Events.Load node end frame) o own fits t = omega arith
touched_counts pool e s (Events.PageOut node end) o own fits t = omega (arith, paged_out_counts s o)
touched_counts pool e s (Events.PageIn node end) o own fits t = omega (arith, paged_in_counts s o)

-- what an entry accepts has the next serial of the endpoint that is called
abbrev pub Accepts : Layout → List Entry → Event → Outcome → Type 0
Accepts layout past (Events.Call actor end call) o = HasSerial (new_serial end (state_of layout past end)) (accepted_by call o)
Accepts layout past event o = Unit {0}

pub accepts_next : (layout : Layout) (past : List Entry) (event : Event) (o : Outcome) → o ≡ outcome_of layout past event → Accepts layout past event o
accepts_next layout past (Events.Call actor end call) o is =
    subst (λ (v : Outcome). HasSerial (new_serial end (state_of layout past end)) (accepted_by call v)) (sym is)
    (call_serial layout.pool end (state_of layout past end) call)
accepts_next layout past event o is = tt

untouched_counts : (layout : Layout) (past : List Entry) (e : EndpointId) (event : Event) (o : Outcome) → Accepts layout past event o →
    list_any (same_end e) (ends_touched event o) ≡ false → from_source e event o ≡ 0
untouched_counts layout past e (Events.Call actor end call) o next t =
    let off : same_end e end ≡ false = not_touched (same_end e end) t in
    weight_own e end ((state_of layout past end).body.accepted + 1) (accepted_by call o) next ∙ rw off refl
untouched_counts layout past e event o next t = refl

-- one entry more: the count of a source rises where it accepts a message
pub count_more : (layout : Layout) (past : List Entry) (x : Entry) (e : EndpointId) (t : Bool) → MayFollow layout past x → touches e x ≡ t →
    (state_of layout (past ++ x ∷ []) e).body.accepted ≡ (state_of layout past e).body.accepted + from_source e x.event x.outcome
count_more layout past x e true may at =
    rw (state_of_push layout past x e true at)
    (touched_counts layout.pool e (state_of layout past e) x.event x.outcome (λ end c same. call_serial layout.pool end (state_of layout past e) c)
    (fits_call layout past e x may at) at)
count_more layout past x e false may at =
    rw (state_of_push layout past x e false at)
    (omega (arith, untouched_counts layout past e x.event x.outcome (accepts_next layout past x.event x.outcome may.outcome) at))

-- each endpoint has counted what it accepted
abbrev pub Counted : Layout → List Entry → Type 0
Counted layout past = (e : EndpointId) → (state_of layout past e).body.accepted ≡ times accepted_of (is_from e) past

pub counted_more : (layout : Layout) (past : List Entry) (x : Entry) → Counted layout past → MayFollow layout past x → Counted layout (past ++ x ∷ [])
counted_more layout past x counted may = λ e.
    omega (arith, count_more layout past x e (touches e x) may refl, counted e, role_push accepted_in (is_from e) past x)

next_count : (layout : Layout) (past : List Entry) (event : Event) (o : Outcome) → Counted layout past → Accepts layout past event o →
    MatchOption (accepted_in event o) (Unit {0}) (λ m. m.serial.count ≡ times accepted_of (is_from m.serial.source) past + 1)
next_count layout past (Events.Call actor end call) o counted next = by_message (accepted_by call o) next
  where
    by_message : (m : Option Message) → HasSerial (new_serial end (state_of layout past end)) m →
        MatchOption m (Unit {0}) (λ n. n.serial.count ≡ times accepted_of (is_from n.serial.source) past + 1)
    by_message None h = tt
    by_message (Some m) h = rw h (rw (← counted end) refl)
next_count layout past event o counted next = tt

pub has_next_count : (layout : Layout) (past : List Entry) (x : Entry) → Counted layout past → MayFollow layout past x → HasNextCount past x
has_next_count layout past x counted may = next_count layout past x.event x.outcome counted (accepts_next layout past x.event x.outcome may.outcome)
