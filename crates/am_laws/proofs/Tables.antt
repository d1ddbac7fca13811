-- What an entry does to the records and the flights of an endpoint.
use Rattle.std.proofs.Common.{◌≡◌, ℕ, Bool, true, false, List, [], ◌∷◌, Option, Some, None, refl, ap, ◌∙◌, subst, if◌then◌else◌}
use Rattle.am_names.specs.declared.EndpointId.{EndpointId}
use Rattle.am_names.specs.declared.NodeId.{NodeId}
use Rattle.am_names.specs.declared.Serial.{Serial}
use Rattle.am_names.specs.declared.Cause.TheVariants.{NotResident}
use Rattle.am_names.specs.declared.Message.{Message}
use Rattle.am_office_entries.specs.declared.Call.{Call}
use Rattle.am_office_entries.specs.declared.Call.TheVariants as Calls
use Rattle.am_office_entries.specs.declared.Event.{Event}
use Rattle.am_office_entries.specs.declared.Event.TheVariants as Events
use Rattle.am_office_entries.specs.declared.Received.{Received}
use Rattle.am_office_entries.specs.declared.Received.TheVariants as Got
use Rattle.am_office_entries.specs.declared.Outcome.{Outcome}
use Rattle.am_office_entries.specs.declared.Outcome.TheVariants as Out
use Rattle.am_names.specs.Names.{same_end, has_serial}
use Rattle.am_model.specs.declared.Awaited.{Awaited}
use Rattle.am_model.specs.declared.Flying.{Flying}
use Rattle.am_model.specs.Endpoint.{State, Body, waits_for}
use Rattle.am_model.specs.Calls.{answer}
use Rattle.am_model.specs.Changes.{called, left, reached, paged_out, paged_in, changed, put, received, expired, bound, arrived, with_arrived, marked}
use Rattle.am_model.specs.Changes.{with_marked, without_flight, bounces_of}
use Rattle.am_office_entries.specs.Entries.{accepted_in, put_in}
use Rattle.am_model.specs.Layout.{AllAre}
use Rattle.am_model.specs.Channels.{attempt, sent_message}
use Rattle.am_model.proofs.Alls.{all_push}
use Rattle.am_laws.proofs.Waiting.{bound_at}
use Rattle.am_laws.proofs.Alls.{all_without}
use Rattle.am_laws.proofs.Credited.{called_records, left_records, expired_records, bound_records, out_records, in_records}

-- the records, as arrived where their reply is put
arrived_all : (R : Awaited → Type 0) (about : Option Serial) (xs : List Awaited) → ((t : Serial) → about ≡ Some t → (a : Awaited) → R a → R (arrived t a)) →
    AllAre R xs → AllAre R (with_arrived about xs)
arrived_all R None xs f h = h
arrived_all R (Some t) [] f h = tt
arrived_all R (Some t) (a ∷ xs) f h = (f t refl a h.0, arrived_all R (Some t) xs f h.1)

reached_awaited : (R : Awaited → Type 0) (e end : EndpointId) (st : State) (o : Outcome) →
    ((m : Message) (t : Serial) → put_in (Events.Carry end) o ≡ Some m → m.about ≡ Some t → (a : Awaited) → R a → R (arrived t a)) → AllAre R st.body.awaited →
    AllAre R (reached e st o).body.awaited
reached_awaited R e end st (Out.Accepted m) f h = by_test (same_end e m.dest)
  where
    by_test : (b : Bool) → AllAre R (if b then put m st else st).body.awaited
    by_test true = arrived_all R m.about st.body.awaited (λ t is. f m t refl is) h
    by_test false = h
reached_awaited R e end st o f h = h

received_awaited : (R : Awaited → Type 0) (e : EndpointId) (st : State) (node peer : NodeId) (number channel seq attempt : ℕ) (r : Received) →
    ((m : Message) (t : Serial) → put_in (Events.Receive node peer number) (Out.Received channel seq attempt r) ≡ Some m → m.about ≡ Some t → (a : Awaited) →
    R a → R (arrived t a)) → AllAre R st.body.awaited → AllAre R (received e st r).body.awaited
received_awaited R e st node peer number channel seq attempt (Got.Accepted m answer) f h = arrived_all R m.about st.body.awaited (λ t is. f m t refl is) h
received_awaited R e st node peer number channel seq attempt (Got.Refused m NotResident answer) f h = h
received_awaited R e st node peer number channel seq attempt (Got.Delivered t) f h = h
received_awaited R e st node peer number channel seq attempt (Got.Requeued t cause bounces) f h = h
received_awaited R e st node peer number channel seq attempt (Got.Returned t cause) f h = all_without R (waits_for t) st.body.awaited h
received_awaited R e st node peer number channel seq attempt r f h = h

-- no entry but a request that is accepted adds a record, and none but a put marks one
pub awaited_kept : (R : Awaited → Type 0) (e : EndpointId) (st : State) (event : Event) (o : Outcome) →
    ((m : Message) (t : Serial) → put_in event o ≡ Some m → m.about ≡ Some t → (a : Awaited) → R a → R (arrived t a)) → AllAre R st.body.awaited →
    ((index : ℕ) (m : Message) → accepted_in event o ≡ Some m → R (record { index = index; serial = m.serial; arrived = false })) →
    AllAre R (changed e st event o).body.awaited
awaited_kept R e st (Events.Call actor end call) o f h new = called_records R st call o h
    (λ index handler words m c is. new index m (λ i. accepted_in (Events.Call actor end (c i)) (is i)))
awaited_kept R e st (Events.Want actor end) o f h new = h
awaited_kept R e st (Events.Carry end) o f h new = reached_awaited R e end (if same_end e end then left st o else st) o f
    (left_records R st o (same_end e end) h)
awaited_kept R e st (Events.Bind node end) o f h new = bound_records R st o h
awaited_kept R e st (Events.Expire node peer channel) o f h new = expired_records R st o h
awaited_kept R e st (Events.Receive node peer number) (Out.Received channel seq attempt r) f h new =
    received_awaited R e st node peer number channel seq attempt r f h
awaited_kept R e st (Events.Receive node peer number) o f h new = h
awaited_kept R e st (Events.Drain node end) o f h new = h
awaited_kept R e st (Events.Unload node end) o f h new = h
awaited_kept R e st (Events.Load node end frame) o f h new = h
awaited_kept R e st (Events.PageOut node end) o f h new = out_records R st o h
awaited_kept R e st (Events.PageIn node end) o f h new = in_records R st o h

-- the flights, as marked where a reply to them is put
marked_all : (R : Flying → Type 0) (about : Option Serial) (xs : List Flying) → ((t : Serial) → about ≡ Some t → (a : Flying) → R a → R (marked t a)) →
    AllAre R xs → AllAre R (with_marked about xs)
marked_all R None xs f h = h
marked_all R (Some t) [] f h = tt
marked_all R (Some t) (a ∷ xs) f h = (f t refl a h.0, marked_all R (Some t) xs f h.1)

called_flights : (R : Flying → Type 0) (st : State) (c : Call) (o : Outcome) → AllAre R st.body.in_flight → AllAre R (called st c o).body.in_flight
called_flights R st (Calls.Request index handler words) (Out.Requested m) h = h
called_flights R st Calls.Poll (Out.Zero serial why) h = h
called_flights R st Calls.Poll (Out.Ran handler m None) h = h
called_flights R st Calls.Poll (Out.Ran handler m (Some reply)) h = h
called_flights R st (Calls.SetTag tag) Out.Done h = h
called_flights R st (Calls.Map index name tag credits) Out.Done h = h
called_flights R st (Calls.Unmap index) Out.Done h = h
called_flights R st (Calls.SetHandler index kind) Out.Done h = h
called_flights R st (Calls.GiveUp serial) Out.Done h = h
called_flights R st Calls.Close Out.Done h = h
called_flights R st c o h = h

left_flights : (R : Flying → Type 0) (st : State) (o : Outcome) (t : Bool) → AllAre R st.body.in_flight → AllAre R (if t then left st o else st).body.in_flight
left_flights R st (Out.Accepted m) true h = h
left_flights R st (Out.Requeued m cause bounces) true h = h
left_flights R st (Out.Returned m cause) true h = h
left_flights R st o true h = h
left_flights R st o false h = h

reached_flights : (R : Flying → Type 0) (e end : EndpointId) (st : State) (o : Outcome) →
    ((m : Message) (t : Serial) → put_in (Events.Carry end) o ≡ Some m → m.about ≡ Some t → (f : Flying) → R f → R (marked t f)) → AllAre R st.body.in_flight →
    AllAre R (reached e st o).body.in_flight
reached_flights R e end st (Out.Accepted m) f h = by_test (same_end e m.dest)
  where
    by_test : (b : Bool) → AllAre R (if b then put m st else st).body.in_flight
    by_test true = marked_all R m.about st.body.in_flight (λ t is. f m t refl is) h
    by_test false = h
reached_flights R e end st o f h = h

pub landed_all : (R : Flying → Type 0) (t : Serial) (b : Body) → AllAre R b.in_flight → AllAre R (without_flight t b).in_flight
landed_all R t b h = all_without R (λ (g : Flying). has_serial t g.message) b.in_flight h

received_flights : (R : Flying → Type 0) (e : EndpointId) (st : State) (node peer : NodeId) (number channel seq attempt : ℕ) (r : Received) →
    ((m : Message) (t : Serial) → put_in (Events.Receive node peer number) (Out.Received channel seq attempt r) ≡ Some m → m.about ≡ Some t → (f : Flying) →
    R f → R (marked t f)) → AllAre R st.body.in_flight → AllAre R (received e st r).body.in_flight
received_flights R e st node peer number channel seq attempt (Got.Accepted m answer) f h = marked_all R m.about st.body.in_flight (λ t is. f m t refl is) h
received_flights R e st node peer number channel seq attempt (Got.Refused m NotResident answer) f h = h
received_flights R e st node peer number channel seq attempt (Got.Delivered t) f h = landed_all R t st.body h
received_flights R e st node peer number channel seq attempt (Got.Requeued t cause bounces) f h = landed_all R t st.body h
received_flights R e st node peer number channel seq attempt (Got.Returned t cause) f h = landed_all R t st.body h
received_flights R e st node peer number channel seq attempt r f h = h

expired_flights : (R : Flying → Type 0) (st : State) (o : Outcome) → AllAre R st.body.in_flight → AllAre R (expired st o).body.in_flight
expired_flights R st (Out.Delivered t) h = landed_all R t st.body h
expired_flights R st (Out.Unknown t) h = landed_all R t st.body h
expired_flights R st o h = h

-- a message as it begins to fly
abbrev pub takes_off : State → Message → Flying
takes_off st m = record { message = m; bounces = bounces_of st.body.replies st.body.requests; answered = false }

bound_flights : (R : Flying → Type 0) (st : State) (o : Outcome) → AllAre R st.body.in_flight → ((m : Message) → sent_message o ≡ Some m → R (takes_off st m)) →
    AllAre R (bound st o).body.in_flight
bound_flights R st (Out.Sent m peer channel seq attempt number) h new = all_push R st.body.in_flight (takes_off st m) h (new m refl)
bound_flights R st o h new = h

out_flights : (R : Flying → Type 0) (st : State) (o : Outcome) → AllAre R st.body.in_flight → AllAre R (paged_out st o).body.in_flight
out_flights R st Out.Done h = h
out_flights R st o h = h

in_flights : (R : Flying → Type 0) (st : State) (o : Outcome) → AllAre R st.body.in_flight → AllAre R (paged_in st o).body.in_flight
in_flights R st Out.Done h = h
in_flights R st o h = h

-- no entry but a bind adds a flight, and none but a put marks one
pub flights_kept : (R : Flying → Type 0) (e : EndpointId) (st : State) (event : Event) (o : Outcome) →
    ((m : Message) (t : Serial) → put_in event o ≡ Some m → m.about ≡ Some t → (f : Flying) → R f → R (marked t f)) → AllAre R st.body.in_flight →
    ((m : Message) → bound_at event o ≡ Some m → R (takes_off st m)) → AllAre R (changed e st event o).body.in_flight
flights_kept R e st (Events.Call actor end call) o f h new = called_flights R st call o h
flights_kept R e st (Events.Want actor end) o f h new = h
flights_kept R e st (Events.Carry end) o f h new = reached_flights R e end (if same_end e end then left st o else st) o f
    (left_flights R st o (same_end e end) h)
flights_kept R e st (Events.Bind node end) o f h new = bound_flights R st o h new
flights_kept R e st (Events.Expire node peer channel) o f h new = expired_flights R st o h
flights_kept R e st (Events.Receive node peer number) (Out.Received channel seq attempt r) f h new =
    received_flights R e st node peer number channel seq attempt r f h
flights_kept R e st (Events.Receive node peer number) o f h new = h
flights_kept R e st (Events.Drain node end) o f h new = h
flights_kept R e st (Events.Unload node end) o f h new = h
flights_kept R e st (Events.Load node end frame) o f h new = h
flights_kept R e st (Events.PageOut node end) o f h new = out_flights R st o h
flights_kept R e st (Events.PageIn node end) o f h new = in_flights R st o h

-- where a message is put, its request's record is marked, and its request where it flies
pub put_awaited : (e : EndpointId) (st : State) (event : Event) (o : Outcome) (m : Message) → put_in event o ≡ Some m → same_end e m.dest ≡ true →
    ((changed e st event o).body.awaited ≡ with_arrived m.about st.body.awaited) × ((changed e st event o).body.in_flight ≡ with_marked m.about
    st.body.in_flight)
put_awaited e st (Events.Carry end) (Out.Accepted n) m is at =
    let same : n ≡ m = cc in
    let here : same_end e n.dest ≡ true = ap (λ (w : Message). same_end e w.dest) same ∙ at in
    rw here (subst (λ (w : Message). ((put n (if same_end e end then left st (Out.Accepted n) else st)).body.awaited ≡ with_arrived w.about st.body.awaited) ×
    ((put n (if same_end e end then left st (Out.Accepted n) else st)).body.in_flight ≡ with_marked w.about st.body.in_flight)) same
    (by_test (same_end e end)))
  where
    by_test : (b : Bool) → ((put n (if b then left st (Out.Accepted n) else st)).body.awaited ≡ with_arrived n.about st.body.awaited) ×
        ((put n (if b then left st (Out.Accepted n) else st)).body.in_flight ≡ with_marked n.about st.body.in_flight)
    by_test true = (refl, refl)
    by_test false = (refl, refl)
put_awaited e st (Events.Receive node peer number) (Out.Received channel seq attempt (Got.Accepted n answer)) m is at =
    let same : n ≡ m = cc in (ap (λ (w : Message). with_arrived w.about st.body.awaited) same, ap (λ (w : Message). with_marked w.about st.body.in_flight) same)
put_awaited e st event o m is at = absurd (cc)
