-- An endpoint stays in order.
use Rattle.std.proofs.lemmas.Bool.{and_parts, and_from}
use Rattle.std.proofs.Common.{◌≡◌, ℕ, Bool, true, false, List, [], Option, Some, None, ◌⊎◌, refl, sym, ap, ◌∙◌, subst, true≢false, if◌then◌else◌}
use Rattle.std.proofs.lemmas.List.{nil_from_length}
use Rattle.am_names.specs.Names.{is_reply, is_request, same_end, is_well_formed}
use Rattle.am_names.specs.declared.Cause.TheVariants as Causes
use Rattle.am_names.specs.declared.EndpointId.{EndpointId}
use Rattle.am_names.specs.declared.Message.{Message}
use Rattle.am_names.specs.declared.NodeId.{NodeId}
use Rattle.am_names.specs.declared.Serial.{Serial}
use Rattle.am_names.specs.declared.Tag.{Tag}
use Rattle.am_office_entries.specs.declared.Call.{Call}
use Rattle.am_office_entries.specs.declared.Call.TheVariants as Calls
use Rattle.am_office_entries.specs.declared.Event.{Event}
use Rattle.am_office_entries.specs.declared.Event.TheVariants as Events
use Rattle.am_office_entries.specs.declared.Outcome.{Outcome}
use Rattle.am_office_entries.specs.declared.Outcome.TheVariants as Out
use Rattle.am_office_entries.specs.declared.Place.{Place}
use Rattle.am_office_entries.specs.declared.Received.{Received}
use Rattle.am_office_entries.specs.declared.Received.TheVariants as Got
use Rattle.am_office_entries.specs.declared.Entry.{Entry}
use Rattle.am_model.specs.declared.Flying.{Flying}
use Rattle.am_model.specs.declared.Queued.{Queued}
use Rattle.am_model.specs.Endpoint.{State, fresh, front, is_in_a_frame}
use Rattle.am_model.specs.Calls.{outcome_of_call}
use Rattle.am_model.specs.Changes.{after, bound, called, carried, changed, expired, left, paged_in, paged_out, put, reached, received, with_marked}
use Rattle.am_model.specs.Allowed.{EndsFlight, MayArrive, MayBind, MayCarry, MayDrain, MayLoad, MayPageIn, MayPageOut, MaySettle, MayUnload}
use Rattle.am_model.specs.Allowed.{are_numbers_in_range, arrived_message}
use Rattle.am_model.specs.Layout.{IsPoolLawful}
use Rattle.am_model.specs.Order.{IsInOrder, KeepsOrder}
use Rattle.am_model.specs.Valid.{is_own, is_own_answer, is_own_flight, is_own_request}
use Rattle.am_model.proofs.Valid.{Parts, arrived_parts, bound_parts, called_parts, carried_parts, flight_parts, fresh_parts}
use Rattle.am_model.proofs.Validity.{all_weaker, own_formed, own_front}
use Rattle.am_model.proofs.Sound.{IsSound, is_flight_formed, is_queued_answer, is_queued_request, flight_sound, sound_arrived, sound_bound, sound_called}
use Rattle.am_model.proofs.Sound.{sound_carried, sound_fresh}
use Rattle.am_model.proofs.PlaceKinds.{on_disk_unframed, on_host_unframed}

-- a change where the endpoint stays put and nothing takes off
pub record StaysPut (s t : State) : Type 0 where
  pub place : t.head.place ≡ s.head.place
  pub flights : s.body.in_flight ≡ [] → t.body.in_flight ≡ []

-- what an endpoint in order has in parts
sound_of : (pool : Option ℕ) (e : EndpointId) (s : State) → IsInOrder pool e s → IsSound pool s.body
sound_of pool e s order =
    let b = s.body in
    let v = order.valid in
    record {
      within = order.within;
      indexes = v.indexes;
      credits = v.mappings;
      requests =
          all_weaker (is_own_request e b.accepted) is_queued_request b.requests
          (λ (q : Queued) h.
          let parts = and_parts (is_request q.message) (is_own e b.accepted q.message q.bounces) h in
          and_from (is_request q.message) (is_well_formed q.message) parts.0 (own_formed e b.accepted q.message q.bounces parts.1))
          v.requests;
      replies =
          all_weaker (is_own_answer e b.accepted) is_queued_answer b.replies
          (λ (q : Queued) h.
          let parts = and_parts (is_reply q.message) (is_own e b.accepted q.message q.bounces) h in
          and_from (is_reply q.message) (is_well_formed q.message) parts.0 (own_formed e b.accepted q.message q.bounces parts.1))
          v.replies;
      in_flight = all_weaker (is_own_flight e b.accepted) is_flight_formed b.in_flight (λ (f : Flying) h. own_formed e b.accepted f.message f.bounces h)
          v.in_flight;
    }

parts_of : (pool : Option ℕ) (e : EndpointId) (s : State) → IsInOrder pool e s → Parts e pool s.body
parts_of pool e s order =
    let v = order.valid in
    record {
      handlers = record { slots = v.handlers; zero_unset = v.handler_zero; kinds = v.kinds };
      records = record { counts = v.counts; records = v.records; credits = v.credits };
      messages = record { requests = v.requests; replies = v.replies; in_flight = v.in_flight; notices = v.notices };
      received = v.received;
      matched = record { each = v.each_answer; all = v.all_answers };
    }

in_order : (pool : Option ℕ) (e : EndpointId) (s : State) → IsSound pool s.body → Parts e pool s.body →
    (is_in_a_frame s.head.place ≡ false → s.body.in_flight ≡ []) → IsInOrder pool e s
in_order pool e s sound p grounded =
    record {
      within = sound.within;
      valid =
          record {
            indexes = sound.indexes;
            mappings = sound.credits;
            handlers = p.handlers.slots;
            handler_zero = p.handlers.zero_unset;
            kinds = p.handlers.kinds;
            counts = p.records.counts;
            records = p.records.records;
            credits = p.records.credits;
            requests = p.messages.requests;
            replies = p.messages.replies;
            in_flight = p.messages.in_flight;
            notices = p.messages.notices;
            received = p.received;
            each_answer = p.matched.each;
            all_answers = p.matched.all;
          };
      grounded = grounded;
    }

order_put : (pool : Option ℕ) (e : EndpointId) (s t : State) → StaysPut s t → IsSound pool t.body → Parts e pool t.body → IsInOrder pool e s →
    IsInOrder pool e t
order_put pool e s t stays sound p order =
    in_order pool e t sound p (λ there. stays.flights (order.grounded (sym (ap is_in_a_frame stays.place) ∙ there)))

called_put : (s : State) (c : Call) (o : Outcome) → StaysPut s (called s c o)
called_put s (Calls.Request index handler words) (Out.Requested m) = record { place = refl; flights = λ none. none }
called_put s Calls.Poll (Out.Zero serial why) = record { place = refl; flights = λ none. none }
called_put s Calls.Poll (Out.Ran handler m None) = record { place = refl; flights = λ none. none }
called_put s Calls.Poll (Out.Ran handler m (Some reply)) = record { place = refl; flights = λ none. none }
called_put s (Calls.SetTag tag) Out.Done = record { place = refl; flights = λ none. none }
called_put s (Calls.Map index name tag credits) Out.Done = record { place = refl; flights = λ none. none }
called_put s (Calls.Unmap index) Out.Done = record { place = refl; flights = λ none. none }
called_put s (Calls.SetHandler index kind) Out.Done = record { place = refl; flights = λ none. none }
called_put s (Calls.GiveUp serial) Out.Done = record { place = refl; flights = λ none. none }
called_put s Calls.Close Out.Done = record { place = refl; flights = λ none. none }
called_put s c o = record { place = refl; flights = λ none. none }

marked_none : (about : Option Serial) (fs : List Flying) → fs ≡ [] → with_marked about fs ≡ []
marked_none None fs none = none
marked_none (Some r) fs none = ap (with_marked (Some r)) none

put_put : (m : Message) (s : State) → StaysPut s (put m s)
put_put m s = record { place = refl; flights = marked_none m.about s.body.in_flight }

left_put : (s : State) (o : Outcome) → StaysPut s (left s o)
left_put s (Out.Accepted m) = record { place = refl; flights = λ none. none }
left_put s (Out.Requeued m cause bounces) = record { place = refl; flights = λ none. none }
left_put s (Out.Returned m cause) = record { place = refl; flights = λ none. none }
left_put s o = record { place = refl; flights = λ none. none }

then_put : (s t u : State) → StaysPut s t → StaysPut t u → StaysPut s u
then_put s t u first second = record { place = second.place ∙ first.place; flights = λ none. second.flights (first.flights none) }

reached_put : (e : EndpointId) (s : State) (o : Outcome) → StaysPut s (reached e s o)
reached_put e s (Out.Accepted m) = by_test (same_end e m.dest)
  where
    by_test : (b : Bool) → StaysPut s (if b then put m s else s)
    by_test true = put_put m s
    by_test false = record { place = refl; flights = λ none. none }
reached_put e s o = record { place = refl; flights = λ none. none }

carried_put : (e from : EndpointId) (s : State) (o : Outcome) → StaysPut s (carried e from s o)
carried_put e from s o = by_test (same_end e from)
  where
    by_test : (b : Bool) → StaysPut s (reached e (if b then left s o else s) o)
    by_test true = then_put s (left s o) (reached e (left s o) o) (left_put s o) (reached_put e (left s o) o)
    by_test false = reached_put e s o

received_put : (e : EndpointId) (s : State) (r : Received) → StaysPut s (received e s r)
received_put e s (Got.Accepted m answer) = put_put m s
received_put e s (Got.Refused m Causes.NotResident answer) = record { place = refl; flights = λ none. none }
received_put e s (Got.Delivered serial) = record { place = refl; flights = λ none. rw none refl }
received_put e s (Got.Requeued serial cause bounces) = record { place = refl; flights = λ none. rw none refl }
received_put e s (Got.Returned serial cause) = record { place = refl; flights = λ none. rw none refl }
received_put e s r = record { place = refl; flights = λ none. none }

expired_put : (s : State) (o : Outcome) → StaysPut s (expired s o)
expired_put s (Out.Delivered serial) = record { place = refl; flights = λ none. rw none refl }
expired_put s (Out.Unknown serial) = record { place = refl; flights = λ none. rw none refl }
expired_put s o = record { place = refl; flights = λ none. none }

ends_put : (limit : ℕ) (e : EndpointId) (s : State) (f : Flying) (event : Event) (o : Outcome) → EndsFlight limit f event o → StaysPut s (changed e s event o)
ends_put limit e s f (Events.Receive node peer number) (Out.Received channel seq attempt result) ends = received_put e s result
ends_put limit e s f (Events.Expire node peer channel) o ends = expired_put s o
ends_put limit e s f event o ends = absurd ends

arrives_put : (e : EndpointId) (s : State) (m : Message) (event : Event) (o : Outcome) → arrived_message event o ≡ Some m → StaysPut s (changed e s event o)
arrives_put e s m (Events.Carry from) o is = carried_put e from s o
arrives_put e s m (Events.Receive node peer number) (Out.Received channel seq attempt result) is = received_put e s result
arrives_put e s m event o is = absurd (cc)

-- a fresh endpoint is in order
pub order_fresh : (pool : Option ℕ) (e : EndpointId) (tag : Tag) (place : Place) → IsPoolLawful pool → IsInOrder pool e (fresh tag place)
order_fresh pool e tag place lawful = in_order pool e (fresh tag place) (sound_fresh pool tag place) (fresh_parts pool e tag place lawful) (λ there. refl)

pub order_called : (pool : Option ℕ) (e : EndpointId) (s : State) (c : Call) → are_numbers_in_range pool c ≡ true → IsInOrder pool e s →
    IsInOrder pool e (called s c (outcome_of_call pool e s c))
order_called pool e s c range order =
    order_put pool e s (called s c (outcome_of_call pool e s c)) (called_put s c (outcome_of_call pool e s c))
    (sound_called pool e s c range (sound_of pool e s order)) (called_parts pool e s c range order.valid.indexes (parts_of pool e s order)) order

pub order_arrived : (limit : ℕ) (pool : Option ℕ) (e : EndpointId) (s : State) (x : Entry) → MayArrive e s x → KeepsOrder limit pool e s x
order_arrived limit pool e s x may le order =
    order_put pool e s (after e s x) (arrives_put e s may.message x.event x.outcome may.is_message) (sound_arrived pool e s x may (sound_of pool e s order))
    (arrived_parts pool e s x may (parts_of pool e s order)) order

pub order_carried : (limit : ℕ) (pool : Option ℕ) (e : EndpointId) (s : State) (x : Entry) → MayCarry limit e s x → KeepsOrder limit pool e s x
order_carried limit pool e s x may le order =
    order_put pool e s (after e s x) (subst (λ (event : Event). StaysPut s (changed e s event x.outcome)) (sym may.event) (carried_put e e s x.outcome))
    (sound_carried pool limit e s x may (sound_of pool e s order)) (carried_parts pool limit e s x le may (parts_of pool e s order)) order

pub order_settled : (limit : ℕ) (pool : Option ℕ) (e : EndpointId) (s : State) (x : Entry) → MaySettle limit e s x → KeepsOrder limit pool e s x
order_settled limit pool e s x may le order =
    order_put pool e s (after e s x) (ends_put limit e s may.flight x.event x.outcome may.ends)
    (flight_sound pool limit e s may.flight x.event x.outcome may.ends (sound_of pool e s order))
    (flight_parts pool limit e s may.flight x.event x.outcome le may.in_flight may.ends (parts_of pool e s order)) order

resident_only : (b : Bool) → b ≡ true → b ≡ false → ⊥
resident_only b is not_so = true≢false (sym is ∙ not_so)

pub order_bound : (limit : ℕ) (pool : Option ℕ) (node : NodeId) (e : EndpointId) (s : State) (x : Entry) → MayBind node e s x → KeepsOrder limit pool e s x
order_bound limit pool node e s x may le order =
    rw (may.event, may.outcome)
    (in_order pool e (bound s (Out.Sent may.queued.message may.peer may.channel may.seq 0 may.number))
    (sound_bound pool s may.queued may.peer may.channel may.seq 0 may.number may.is_front (sound_of pool e s order))
    (bound_parts pool e s may.queued may.peer may.channel may.seq 0 may.number may.is_front (parts_of pool e s order))
    (λ there. absurd (resident_only (is_in_a_frame s.head.place) may.framed there)))

pub order_wanted : (pool : Option ℕ) (e : EndpointId) (s : State) → IsInOrder pool e s → IsInOrder pool e (record s { head = record s.head { wanted = true } })
order_wanted pool e s order = record { within = order.within; valid = order.valid; grounded = order.grounded }

pub order_drained : (limit : ℕ) (pool : Option ℕ) (node : NodeId) (e : EndpointId) (s : State) (x : Entry) → MayDrain node e s x → KeepsOrder limit pool e s x
order_drained limit pool node e s x may le order = rw may.event (record { within = order.within; valid = order.valid; grounded = order.grounded })

pub order_unloaded : (limit : ℕ) (pool : Option ℕ) (node : NodeId) (e : EndpointId) (s : State) (x : Entry) → MayUnload node e s x → KeepsOrder limit pool e s x
order_unloaded limit pool node e s x may le order = rw may.event (record {
  within = order.within;
  valid = order.valid;
  grounded = λ there. nil_from_length s.body.in_flight may.none_in_flight;
})

pub order_loaded : (limit : ℕ) (pool : Option ℕ) (node : NodeId) (e : EndpointId) (s : State) (x : Entry) → MayLoad node e s x → KeepsOrder limit pool e s x
order_loaded limit pool node e s x may le order = rw may.event (record {
  within = order.within;
  valid = order.valid;
  grounded = λ there. absurd (resident_only true refl there);
})

pub order_paged_out : (limit : ℕ) (pool : Option ℕ) (node : NodeId) (e : EndpointId) (s : State) (x : Entry) → MayPageOut node e s x →
    KeepsOrder limit pool e s x
order_paged_out limit pool node e s x may le order = rw may.event (by_outcome x.outcome may.outcome)
  where
    by_outcome : (o : Outcome) → (o ≡ Out.Done) ⊎ (o ≡ Out.Failed) → IsInOrder pool e (paged_out s o)
    by_outcome Out.Done either = record {
      within = order.within;
      valid = order.valid;
      grounded = λ there. order.grounded (on_host_unframed s.head.place may.on_host);
    }
    by_outcome o either = order

pub order_paged_in : (limit : ℕ) (pool : Option ℕ) (outcome : Outcome) (node : NodeId) (e : EndpointId) (s : State) (x : Entry) → MayPageIn outcome node e s x →
    KeepsOrder limit pool e s x
order_paged_in limit pool outcome node e s x may le order = rw may.event (by_outcome x.outcome)
  where
    by_outcome : (o : Outcome) → IsInOrder pool e (paged_in s o)
    by_outcome Out.Done = record { within = order.within; valid = order.valid; grounded = λ there. order.grounded (on_disk_unframed s.head.place may.on_disk) }
    by_outcome o = order

-- the front message has the form of its kind
pub front_formed : (pool : Option ℕ) (e : EndpointId) (s : State) (q : Queued) → IsInOrder pool e s → front s ≡ Some q → is_well_formed q.message ≡ true
front_formed pool e s q order is = own_formed e s.body.accepted q.message q.bounces (own_front e s.body q is (parts_of pool e s order).messages).front
