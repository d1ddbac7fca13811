-- The body of an endpoint stays sound.
use Rattle.std.specs.Prelude.{nat_le, nat_lt, not, is_none, ◌||◌}
use Rattle.std.proofs.Common.{◌≡◌, ℕ, zero, suc, ◌+◌, ◌≤◌, Bool, true, false, cond, ◌&&◌, List, [], ◌∷◌, ◌++◌, length, drop, map, Option, Some, None, refl, sym}
use Rattle.std.proofs.Common.{ap, ◌∙◌, subst, arith, leb-false, if◌then◌else◌}
use Rattle.std.specs.List.{count_by, find, list_all, list_any}
use Rattle.std.specs.Prelude.{slice_set}
use Rattle.std.proofs.lemmas.Bool.{and_parts, and_from}
use Rattle.std.proofs.lemmas.List.{append-nil, length-set}
use Rattle.std.proofs.lemmas.List.Folds.{list_all-append, list_all-map}
use Rattle.std.proofs.lemmas.List.Sums.{sum_by_push, sum_by-cons}
use Rattle.am_names.specs.Names.{has_serial, same_serial, same_end, is_reply, is_request, is_well_formed}
use Rattle.am_names.specs.Rules.{matches, is_transient}
use Rattle.am_names.specs.declared.EndpointId.{EndpointId}
use Rattle.am_names.specs.declared.Cause.TheVariants as Causes
use Rattle.am_names.specs.declared.Message.{Message}
use Rattle.am_names.specs.declared.NodeId.{NodeId}
use Rattle.am_names.specs.declared.Serial.{Serial}
use Rattle.am_names.specs.declared.Verdict.{Verdict}
use Rattle.am_names.specs.declared.Verdict.TheVariants as Verdicts
use Rattle.am_names.specs.declared.Why.{Why}
use Rattle.am_names.specs.declared.Why.TheVariants as Whys
use Rattle.am_names.specs.declared.Words.{Words}
use Rattle.am_names.specs.declared.Tag.{Tag}
use Rattle.am_office_entries.specs.declared.Call.{Call}
use Rattle.am_office_entries.specs.declared.Call.TheVariants as Calls
use Rattle.am_office_entries.specs.declared.Event.{Event}
use Rattle.am_office_entries.specs.declared.Event.TheVariants as Events
use Rattle.am_office_entries.specs.declared.HandlerKind.{HandlerKind}
use Rattle.am_office_entries.specs.declared.HandlerKind.TheVariants.{Note, Echo, Add}
use Rattle.am_office_entries.specs.declared.Outcome.{Outcome}
use Rattle.am_office_entries.specs.declared.Outcome.TheVariants as Out
use Rattle.am_office_entries.specs.declared.Place.{Place}
use Rattle.am_office_entries.specs.declared.Received.{Received}
use Rattle.am_office_entries.specs.declared.Received.TheVariants as Got
use Rattle.am_office_entries.specs.declared.Refusal.{Refusal}
use Rattle.am_office_entries.specs.declared.Entry.{Entry}
use Rattle.am_model.specs.declared.Awaited.{Awaited}
use Rattle.am_model.specs.declared.Flying.{Flying}
use Rattle.am_model.specs.declared.Mapping.{Mapping}
use Rattle.am_model.specs.declared.Notice.{Notice}
use Rattle.am_model.specs.declared.Queued.{Queued}
use Rattle.am_model.specs.Choice.{first_holding, without_first}
use Rattle.am_model.specs.Endpoint.{State, Body, IsWithinBounds, fresh, front, front_of, is_arrived, is_waited_for, is_resident, entry_at}
use Rattle.am_model.specs.Endpoint.{replies_held, verdict, verdict_of, waits_for}
use Rattle.am_model.specs.Calls.{outcome_of_call, answer, poll, poll_received, poll_requests, request_refusal, unless, new_request, request_message, sum_after}
use Rattle.am_model.specs.Changes.{appended, kind_run, arrived, called, left, marked, put, queued, reached, with_arrived, with_marked, without_front, noticed}
use Rattle.am_model.specs.Changes.{bounces_of, flying_of, without_flight, requeued_flight, returned_flight, received, expired, bound, changed, after}
use Rattle.am_model.specs.History.{judged, settle_by}
use Rattle.am_model.specs.Allowed.{EndsFlight, MayArrive, MayCarry, are_numbers_in_range, arrival_verdict, arrived_message, tries_used_up, is_carry_from}
use Rattle.am_model.specs.Valid.{is_mapping_in_range}
use Rattle.am_model.proofs.Counts.{call_counts_one}
use Rattle.am_model.proofs.Names.{same_end-refl}
use Rattle.am_model.proofs.Own.{Own, own_kept, is_call}
use Rattle.am_model.proofs.Received.{bit}
use Rattle.am_model.proofs.Sizes.{within_called, count_le, length_appended, waiting_kept}

abbrev pub is_queued_request : Queued → Bool
is_queued_request q = is_request q.message && is_well_formed q.message

abbrev pub is_queued_answer : Queued → Bool
is_queued_answer q = is_reply q.message && is_well_formed q.message

abbrev pub is_flight_formed : Flying → Bool
is_flight_formed f = is_well_formed f.message

-- what keeps the lists of a body within their bounds
pub record IsSound (pool : Option ℕ) (b : Body) : Type 0 where
  pub within : IsWithinBounds b
  pub indexes : length b.mapped ≡ 16
  pub credits : list_all (is_mapping_in_range pool) b.mapped ≡ true
  pub requests : list_all is_queued_request b.requests ≡ true
  pub replies : list_all is_queued_answer b.replies ≡ true
  pub in_flight : list_all is_flight_formed b.in_flight ≡ true

-- lists whose elements all pass

pub all_push : {X : Type 0} (p : X → Bool) (xs : List X) (x : X) → list_all p xs ≡ true → p x ≡ true → list_all p (xs ++ x ∷ []) ≡ true
all_push p xs x all one = list_all-append p xs (x ∷ []) ∙ and_from (list_all p xs) (p x && true) all (and_from (p x) true one refl)

pub all_dropped : {X : Type 0} (p : X → Bool) (xs : List X) → list_all p xs ≡ true → list_all p (drop 1 xs) ≡ true
all_dropped p [] all = refl
all_dropped p (x ∷ xs) all = (and_parts (p x) (list_all p xs) all).1

pub all_set : {X : Type 0} (p : X → Bool) (xs : List X) (i : ℕ) (x : X) → p x ≡ true → list_all p xs ≡ true → list_all p (slice_set xs i x) ≡ true
all_set p [] i x one all = refl
all_set p (y ∷ xs) zero x one all = and_from (p x) (list_all p xs) one (and_parts (p y) (list_all p xs) all).1
all_set p (y ∷ xs) (suc i) x one all =
    let parts = and_parts (p y) (list_all p xs) all in and_from (p y) (list_all p (slice_set xs i x)) parts.0 (all_set p xs i x one parts.1)

pub all_without : {X : Type 0} (p t : X → Bool) (xs : List X) → list_all p xs ≡ true → list_all p (without_first t xs) ≡ true
all_without p t [] all = refl
all_without p t (x ∷ xs) all = by_test p t x xs (t x) all (all_without p t xs (and_parts (p x) (list_all p xs) all).1)
  where
    by_test : {X : Type 0} (p t : X → Bool) (x : X) (xs : List X) (b : Bool) → list_all p (x ∷ xs) ≡ true → list_all p (without_first t xs) ≡ true →
        list_all p (if b then xs else x ∷ without_first t xs) ≡ true
    by_test p t x xs true all more = (and_parts (p x) (list_all p xs) all).1
    by_test p t x xs false all more = and_from (p x) (list_all p (without_first t xs)) (and_parts (p x) (list_all p xs) all).0 more

pub all_found : {X : Type 0} (p t : X → Bool) (xs : List X) (x : X) → list_all p xs ≡ true → find t xs ≡ Some x → p x ≡ true
all_found p t [] x all e = absurd (cc)
all_found p t (y ∷ xs) x all e = by_test p t x y xs (t y) all e (all_found p t xs x (and_parts (p y) (list_all p xs) all).1)
  where
    by_test : {X : Type 0} (p t : X → Bool) (x y : X) (xs : List X) (b : Bool) → list_all p (y ∷ xs) ≡ true → (if b then Some y else find t xs) ≡ Some x →
        (find t xs ≡ Some x → p x ≡ true) → p x ≡ true
    by_test p t x y xs true all h more = let same : y ≡ x = cc in subst (λ w. p w ≡ true) same (and_parts (p y) (list_all p xs) all).0
    by_test p t x y xs false all h more = more h

pub all_appended : (p : Queued → Bool) (b : Bool) (m : Message) (n : ℕ) (xs : List Queued) → (b ≡ true → p (record { message = m; bounces = n }) ≡ true) →
    list_all p xs ≡ true → list_all p (appended b m n xs) ≡ true
all_appended p true m n xs one all = all_push p xs (record { message = m; bounces = n }) all (one refl)
all_appended p false m n xs one all = all

-- calls

pub answer_formed : (e : EndpointId) (s : State) (m : Message) (kind : Option HandlerKind) → is_well_formed (answer e s m kind) ≡ true
answer_formed e s m (Some (Echo to)) = refl
answer_formed e s m (Some (Add to)) = refl
answer_formed e s m (Some Note) = refl
answer_formed e s m None = refl

-- the queues after a message goes to the tail of its queue
pub record QueuesKept (b : Body) : Type 0 where
  pub requests : list_all is_queued_request b.requests ≡ true
  pub replies : list_all is_queued_answer b.replies ≡ true

queues_queued : (m : Message) (n : ℕ) (b : Body) → is_well_formed m ≡ true → QueuesKept b → QueuesKept (queued m n b)
queues_queued m n b formed kept =
    record {
      requests = all_appended is_queued_request (is_request m) m n b.requests (λ is. and_from (is_request m) (is_well_formed m) is formed) kept.requests;
      replies = all_appended is_queued_answer (is_reply m) m n b.replies (λ is. and_from (is_reply m) (is_well_formed m) is formed) kept.replies;
    }

queues_of : (pool : Option ℕ) (b : Body) → IsSound pool b → QueuesKept b
queues_of pool b sound = record { requests = sound.requests; replies = sound.replies }

-- the queues after a call
queues_requested : (pool : Option ℕ) (e : EndpointId) (s : State) (index handler : ℕ) (words : Words) (r : Option Refusal) (mapping : Option Mapping) →
    QueuesKept s.body → QueuesKept (called s (Calls.Request index handler words) (unless r (new_request e s mapping handler words))).body
queues_requested pool e s index handler words (Some refusal) mapping kept = kept
queues_requested pool e s index handler words None None kept = kept
queues_requested pool e s index handler words None (Some mapping) kept =
    queues_queued (request_message e s mapping handler words) 0 (record s.body {
      accepted = s.body.accepted + 1;
      awaited = s.body.awaited ++ record { index = index; serial = (request_message e s mapping handler words).serial; arrived = false } ∷ [];
    }) refl
    (record { requests = kept.requests; replies = kept.replies })

queues_polled : (e : EndpointId) (s : State) → QueuesKept s.body → (notices : List Notice) → QueuesKept (called s Calls.Poll (poll e s notices)).body
queues_polled e s kept (notice ∷ notices) = record { requests = kept.requests; replies = kept.replies }
queues_polled e s kept [] = by_found (find is_reply s.body.received)
  where
    by_full : (m : Message) (full : Bool) → QueuesKept (called s Calls.Poll (if full then Out.Blocked else Out.Ran (Some m.handler) m
        (Some (answer e s m (entry_at s.body.handlers m.handler))))).body
    by_full m true = kept
    by_full m false =
        queues_queued (answer e s m (entry_at s.body.handlers m.handler)) 0 (record s.body {
          accepted = s.body.accepted + 1;
          received = drop 1 s.body.received;
          sum = sum_after (kind_run s.body.handlers (Some m.handler)) m.words s.body.sum;
        }) (answer_formed e s m (entry_at s.body.handlers m.handler))
        (record { requests = kept.requests; replies = kept.replies })

    by_list : (xs : List Message) → QueuesKept (called s Calls.Poll (poll_requests e s xs)).body
    by_list [] = kept
    by_list (m ∷ ms) = by_full m (nat_le 16 (replies_held s.body))

    by_found : (f : Option Message) → QueuesKept (called s Calls.Poll (poll_received e s f)).body
    by_found (Some m) = record { requests = kept.requests; replies = kept.replies }
    by_found None = by_list s.body.received

-- whether a call may make a message
abbrev is_maker : Call → Bool
is_maker (Calls.Request index handler words) = true
is_maker Calls.Poll = true
is_maker c = false

queues_other : (s : State) (c : Call) (o : Outcome) → is_maker c ≡ false → QueuesKept s.body → QueuesKept (called s c o).body
queues_other s (Calls.Request index handler words) o is kept = absurd (cc)
queues_other s Calls.Poll o is kept = absurd (cc)
queues_other s (Calls.SetTag tag) Out.Done is kept = record { requests = kept.requests; replies = kept.replies }
queues_other s (Calls.Map index name tag credits) Out.Done is kept = record { requests = kept.requests; replies = kept.replies }
queues_other s (Calls.Unmap index) Out.Done is kept = record { requests = kept.requests; replies = kept.replies }
queues_other s (Calls.SetHandler index kind) Out.Done is kept = record { requests = kept.requests; replies = kept.replies }
queues_other s (Calls.GiveUp serial) Out.Done is kept = record { requests = kept.requests; replies = kept.replies }
queues_other s Calls.Close Out.Done is kept = kept
queues_other s c o is kept = kept

queues_called : (pool : Option ℕ) (e : EndpointId) (s : State) (c : Call) → QueuesKept s.body → QueuesKept (called s c (outcome_of_call pool e s c)).body
queues_called pool e s (Calls.Request index handler words) kept =
    queues_requested pool e s index handler words (request_refusal pool s index) (entry_at s.body.mapped index) kept
queues_called pool e s Calls.Poll kept = queues_polled e s kept s.body.notices
queues_called pool e s c kept = queues_other s c (outcome_of_call pool e s c) refl kept

-- the indexes and what is in flight
pub record TablesKept (pool : Option ℕ) (b : Body) : Type 0 where
  pub indexes : length b.mapped ≡ 16
  pub credits : list_all (is_mapping_in_range pool) b.mapped ≡ true
  pub in_flight : list_all is_flight_formed b.in_flight ≡ true

tables_of : (pool : Option ℕ) (b : Body) → IsSound pool b → TablesKept pool b
tables_of pool b sound = record { indexes = sound.indexes; credits = sound.credits; in_flight = sound.in_flight }

tables_called : (pool : Option ℕ) (s : State) (c : Call) (o : Outcome) → are_numbers_in_range pool c ≡ true → TablesKept pool s.body →
    TablesKept pool (called s c o).body
tables_called pool s (Calls.Request index handler words) (Out.Requested m) range kept = record {
  indexes = kept.indexes;
  credits = kept.credits;
  in_flight = kept.in_flight;
}
tables_called pool s Calls.Poll (Out.Zero serial why) range kept = record { indexes = kept.indexes; credits = kept.credits; in_flight = kept.in_flight }
tables_called pool s Calls.Poll (Out.Ran handler m None) range kept = record { indexes = kept.indexes; credits = kept.credits; in_flight = kept.in_flight }
tables_called pool s Calls.Poll (Out.Ran handler m (Some reply)) range kept = record {
  indexes = kept.indexes;
  credits = kept.credits;
  in_flight = kept.in_flight;
}
tables_called pool s (Calls.SetTag tag) Out.Done range kept = record { indexes = kept.indexes; credits = kept.credits; in_flight = kept.in_flight }
tables_called pool s (Calls.Map index name tag credits) Out.Done range kept =
    record {
      indexes = length-set s.body.mapped index (Some (record { name = name; tag = tag; credits = credits })) ∙ kept.indexes;
      credits = all_set (is_mapping_in_range pool) s.body.mapped index (Some (record { name = name; tag = tag; credits = credits })) range kept.credits;
      in_flight = kept.in_flight;
    }
tables_called pool s (Calls.Unmap index) Out.Done range kept =
    record {
      indexes = length-set s.body.mapped index None ∙ kept.indexes;
      credits = all_set (is_mapping_in_range pool) s.body.mapped index None refl kept.credits;
      in_flight = kept.in_flight;
    }
tables_called pool s (Calls.SetHandler index kind) Out.Done range kept = record { indexes = kept.indexes; credits = kept.credits; in_flight = kept.in_flight }
tables_called pool s (Calls.GiveUp serial) Out.Done range kept = record { indexes = kept.indexes; credits = kept.credits; in_flight = kept.in_flight }
tables_called pool s Calls.Close Out.Done range kept = kept
tables_called pool s c o range kept = kept

sound_by : (pool : Option ℕ) (b : Body) → IsWithinBounds b → QueuesKept b → TablesKept pool b → IsSound pool b
sound_by pool b within queues tables =
    record {
      within = within;
      indexes = tables.indexes;
      credits = tables.credits;
      requests = queues.requests;
      replies = queues.replies;
      in_flight = tables.in_flight;
    }

-- a call keeps the body sound
pub sound_called : (pool : Option ℕ) (e : EndpointId) (s : State) (c : Call) → are_numbers_in_range pool c ≡ true → IsSound pool s.body →
    IsSound pool (called s c (outcome_of_call pool e s c)).body
sound_called pool e s c range sound =
    sound_by pool (called s c (outcome_of_call pool e s c)).body (within_called pool e s c sound.within)
    (queues_called pool e s c (queues_of pool s.body sound)) (tables_called pool s c (outcome_of_call pool e s c) range (tables_of pool s.body sound))

-- a fresh body is sound
pub sound_fresh : (pool : Option ℕ) (tag : Tag) (place : Place) → IsSound pool (fresh tag place).body
sound_fresh pool tag place =
    record {
      within = record { requests = omega arith; replies = omega arith; awaited = omega arith; received = omega arith; answers = omega arith };
      indexes = refl;
      credits = refl;
      requests = refl;
      replies = refl;
      in_flight = refl;
    }

-- arrivals

pub verdict_accepts : (s : State) (m : Message) → verdict s m ≡ Verdicts.Accepted →
    ((is_request m && nat_le 16 (count_by is_request s.body.received)) ≡ false) × ((is_reply m && not (is_waited_for s.body.awaited m.about)) ≡ false)
verdict_accepts s m h =
    by_tests s.head.closed (not (is_resident s.head.place)) (not (matches s.body.tag m.tag)) (is_request m && is_none (entry_at s.body.handlers m.handler))
    (is_request m && nat_le 16 (count_by is_request s.body.received)) (is_reply m && not (is_waited_for s.body.awaited m.about)) h
  where
    by_tests : (a b c d f g : Bool) → verdict_of (first_holding ((a, Causes.NoEndpoint) ∷ (b, Causes.NotResident) ∷ (c, Causes.BadTag) ∷ (
      d,
      Causes.BadHandler,
    ) ∷ (f, Causes.QueueFull) ∷ (g, Causes.NoRequest) ∷ [])) ≡ Verdicts.Accepted → (f ≡ false) × (g ≡ false)
    by_tests true b c d f g h = absurd (cc)
    by_tests false true c d f g h = absurd (cc)
    by_tests false false true d f g h = absurd (cc)
    by_tests false false false true f g h = absurd (cc)
    by_tests false false false false true g h = absurd (cc)
    by_tests false false false false false true h = absurd (cc)
    by_tests false false false false false false h = (refl, refl)

-- marking a request that is answered changes no message
marked_counts : (p : Message → Bool) (about : Option Serial) (fs : List Flying) →
    count_by (λ (f : Flying). p f.message) (with_marked about fs) ≡ count_by (λ (f : Flying). p f.message) fs
marked_counts p None fs = refl
marked_counts p (Some r) [] = refl
marked_counts p (Some r) (f ∷ fs) =
    omega (
      arith,
      marked_counts p (Some r) fs,
      sum_by-cons (λ (g : Flying). cond (p g.message) 1 0) f fs,
      sum_by-cons (λ (g : Flying). cond (p g.message) 1 0) (marked r f) (with_marked (Some r) fs),
    )

marked_formed : (about : Option Serial) (fs : List Flying) → list_all is_flight_formed fs ≡ true → list_all is_flight_formed (with_marked about fs) ≡ true
marked_formed None fs all = all
marked_formed (Some r) fs all = list_all-map is_flight_formed (marked r) fs ∙ all

-- a record that arrives stays arrived
arrived_le : (r : Serial) (xs : List Awaited) → count_by is_arrived xs ≤ count_by is_arrived (map (arrived r) xs)
arrived_le r [] = omega arith
arrived_le r (a ∷ xs) =
    omega (
      arith,
      arrived_le r xs,
      sum_by-cons (λ (y : Awaited). cond y.arrived 1 0) a xs,
      sum_by-cons (λ (y : Awaited). cond y.arrived 1 0) (arrived r a) (map (arrived r) xs),
      one a.arrived (same_serial r a.serial),
    )
  where
    one : (b c : Bool) → bit b ≤ bit (b || c)
    one true c = omega arith
    one false true = omega arith
    one false false = omega arith

-- a waiting record arrives
arrived_more : (r : Serial) (xs : List Awaited) → list_any (waits_for r) xs ≡ true → count_by is_arrived xs + 1 ≤ count_by is_arrived (map (arrived r) xs)
arrived_more r [] h = absurd (cc)
arrived_more r (a ∷ xs) h = by_test r a xs a.arrived (same_serial r a.serial) refl refl h (arrived_more r xs)
  where
    by_test : (r : Serial) (a : Awaited) (xs : List Awaited) (b c : Bool) → a.arrived ≡ b → same_serial r a.serial ≡ c →
        ((c && not b) || list_any (waits_for r) xs) ≡ true → (list_any (waits_for r) xs ≡ true →
        count_by is_arrived xs + 1 ≤ count_by is_arrived (map (arrived r) xs)) →
        count_by is_arrived (a ∷ xs) + 1 ≤ count_by is_arrived (arrived r a ∷ map (arrived r) xs)
    by_test r a xs false true is same h more =
        omega (
          arith,
          arrived_le r xs,
          sum_by-cons (λ (y : Awaited). cond y.arrived 1 0) a xs,
          sum_by-cons (λ (y : Awaited). cond y.arrived 1 0) (arrived r a) (map (arrived r) xs),
          ap bit is,
          ap (λ b. bit (b || same_serial r a.serial)) is
              ∙ ap bit same,
        )
    by_test r a xs b false is same h more =
        omega (
          arith,
          more (rest b h),
          sum_by-cons (λ (y : Awaited). cond y.arrived 1 0) a xs,
          sum_by-cons (λ (y : Awaited). cond y.arrived 1 0) (arrived r a) (map (arrived r) xs),
          one a.arrived (same_serial r a.serial),
        )
      where
        rest : (b : Bool) → ((false && not b) || list_any (waits_for r) xs) ≡ true → list_any (waits_for r) xs ≡ true
        rest b h = h

        one : (b c : Bool) → bit b ≤ bit (b || c)
        one true c = omega arith
        one false true = omega arith
        one false false = omega arith
    by_test r a xs true true is same h more =
        omega (
          arith,
          more h,
          sum_by-cons (λ (y : Awaited). cond y.arrived 1 0) a xs,
          sum_by-cons (λ (y : Awaited). cond y.arrived 1 0) (arrived r a) (map (arrived r) xs),
          ap bit is,
          ap (λ b. bit (b || same_serial r a.serial)) is,
        )

arrived_about : (about : Option Serial) (xs : List Awaited) (b : Bool) → is_waited_for xs about ≡ b →
    count_by is_arrived xs + bit b ≤ count_by is_arrived (with_arrived about xs)
arrived_about None xs true h = absurd (cc)
arrived_about None xs false h = omega arith
arrived_about (Some r) xs true h = arrived_more r xs h
arrived_about (Some r) xs false h = omega (arith, arrived_le r xs)

arrived_length : (about : Option Serial) (xs : List Awaited) → length (with_arrived about xs) ≡ length xs
arrived_length None xs = refl
arrived_length (Some r) [] = refl
arrived_length (Some r) (a ∷ xs) = ap suc (arrived_length (Some r) xs)

within_put : (m : Message) (s : State) → verdict s m ≡ Verdicts.Accepted → IsWithinBounds s.body → IsWithinBounds (put m s).body
within_put m s accepts w = by_kind (is_request m) (is_waited_for s.body.awaited m.about) refl refl (verdict_accepts s m accepts)
  where
    by_kind : (request awaited : Bool) → is_request m ≡ request → is_waited_for s.body.awaited m.about ≡ awaited →
        ((is_request m && nat_le 16 (count_by is_request s.body.received)) ≡ false) × ((is_reply m && not (is_waited_for s.body.awaited m.about)) ≡ false) →
        IsWithinBounds (put m s).body
    by_kind true awaited is about h =
        record {
          requests = omega (arith, w.requests, marked_counts is_request m.about s.body.in_flight);
          replies = omega (arith, w.replies, marked_counts is_reply m.about s.body.in_flight);
          awaited = omega (arith, w.awaited, arrived_length m.about s.body.awaited);
          received = omega (
            arith,
            sum_by_push (λ (n : Message). cond (is_request n) 1 0) s.body.received m,
            ap bit is,
            leb-false 16 (count_by is_request s.body.received) (sym (ap (λ b. b && nat_le 16 (count_by is_request s.body.received)) is) ∙ h.0),
          );
          answers = omega (
            arith,
            w.answers,
            sum_by_push (λ (n : Message). cond (is_reply n) 1 0) s.body.received m,
            ap (λ b. bit (if b then false else true)) is,
            arrived_about m.about s.body.awaited awaited about,
          );
        }
    by_kind false true is about h =
        record {
          requests = omega (arith, w.requests, marked_counts is_request m.about s.body.in_flight);
          replies = omega (arith, w.replies, marked_counts is_reply m.about s.body.in_flight);
          awaited = omega (arith, w.awaited, arrived_length m.about s.body.awaited);
          received = omega (arith, w.received, sum_by_push (λ (n : Message). cond (is_request n) 1 0) s.body.received m, ap bit is);
          answers = omega (
            arith,
            w.answers,
            sum_by_push (λ (n : Message). cond (is_reply n) 1 0) s.body.received m,
            ap (λ b. bit (if b then false else true)) is,
            arrived_about m.about s.body.awaited true about,
          );
        }
    by_kind false false is about h = absurd (true_not (sym (ap (λ b. (if b then false else true) && not (is_waited_for s.body.awaited m.about)) is
        ∙ ap not about) ∙ h.1))
      where
        true_not : true ≡ false → ⊥
        true_not e = cc

sound_put : (pool : Option ℕ) (m : Message) (s : State) → verdict s m ≡ Verdicts.Accepted → IsSound pool s.body → IsSound pool (put m s).body
sound_put pool m s accepts sound =
    sound_by pool (put m s).body (within_put m s accepts sound.within) (record {
      requests = sound.requests;
      replies = sound.replies;
    }) (record {
      indexes = sound.indexes;
      credits = sound.credits;
      in_flight = marked_formed m.about s.body.in_flight sound.in_flight;
    })

-- the front message leaves

-- the queues without their front, and the front
pub record FrontLeaves (b : Body) (q : Queued) : Type 0 where
  pub queues : QueuesKept (without_front b)
  pub formed : is_well_formed q.message ≡ true
  pub requests : length (without_front b).requests + bit (is_request q.message) ≡ length b.requests
  pub replies : length (without_front b).replies + bit (is_reply q.message) ≡ length b.replies

front_leaves : (b : Body) (q : Queued) → front_of b.replies b.requests ≡ Some q → QueuesKept b → FrontLeaves b q
front_leaves b q is kept = by_lists b.replies b.requests is kept.replies kept.requests
  where
    no_request : (b : Bool) → (if b then false else true) ≡ true → b ≡ false
    no_request true h = absurd (cc)
    no_request false h = refl

    by_lists : (replies requests : List Queued) → front_of replies requests ≡ Some q → list_all is_queued_answer replies ≡ true →
        list_all is_queued_request requests ≡ true → FrontLeaves (record b { replies = replies; requests = requests }) q
    by_lists (r ∷ replies) requests e answers asked =
        let same : r ≡ q = cc in
        let parts = and_parts (is_queued_answer r) (list_all is_queued_answer replies) answers in
        let kind = and_parts (is_reply r.message) (is_well_formed r.message) parts.0 in
        subst (FrontLeaves (record b { replies = r ∷ replies; requests = requests })) same
        (record {
          queues = record { requests = asked; replies = parts.1 };
          formed = kind.1;
          requests = omega (arith, ap bit (no_request (is_request r.message) kind.0));
          replies = omega (arith, ap bit kind.0);
        })
    by_lists [] (r ∷ requests) e answers asked =
        let same : r ≡ q = cc in
        let parts = and_parts (is_queued_request r) (list_all is_queued_request requests) asked in
        let kind = and_parts (is_request r.message) (is_well_formed r.message) parts.0 in
        subst (FrontLeaves (record b { replies = []; requests = r ∷ requests })) same
        (record {
          queues = record { requests = parts.1; replies = refl };
          formed = kind.1;
          requests = omega (arith, ap bit kind.0);
          replies = omega (arith, ap (λ b. bit (if b then false else true)) kind.0);
        })
    by_lists [] [] e answers asked = absurd (cc)

-- the front message is accepted elsewhere
sound_gone : (pool : Option ℕ) (b : Body) (q : Queued) → front_of b.replies b.requests ≡ Some q → IsSound pool b → IsSound pool (without_front b)
sound_gone pool b q is sound =
    let leaves = front_leaves b q is (queues_of pool b sound) in
    let w = sound.within in
    sound_by pool (without_front b)
    (record {
      requests = omega (arith, w.requests, leaves.requests);
      replies = omega (arith, w.replies, leaves.replies);
      awaited = w.awaited;
      received = w.received;
      answers = w.answers;
    })
    leaves.queues
    (record { indexes = sound.indexes; credits = sound.credits; in_flight = sound.in_flight })

-- the front message goes back to the tail of its queue
sound_requeued : (pool : Option ℕ) (b : Body) (q : Queued) (n : ℕ) → front_of b.replies b.requests ≡ Some q → IsSound pool b →
    IsSound pool (queued q.message n (without_front b))
sound_requeued pool b q n is sound =
    let leaves = front_leaves b q is (queues_of pool b sound) in
    let w = sound.within in
    sound_by pool (queued q.message n (without_front b))
    (record {
      requests = omega (arith, w.requests, leaves.requests, length_appended (is_request q.message) q.message n (without_front b).requests);
      replies = omega (arith, w.replies, leaves.replies, length_appended (is_reply q.message) q.message n (without_front b).replies);
      awaited = w.awaited;
      received = w.received;
      answers = w.answers;
    })
    (queues_queued q.message n (without_front b) leaves.formed leaves.queues)
    (record { indexes = sound.indexes; credits = sound.credits; in_flight = sound.in_flight })

-- the front message comes back
sound_returned : (pool : Option ℕ) (b : Body) (q : Queued) (n : ℕ) (why : Why) → front_of b.replies b.requests ≡ Some q → IsSound pool b →
    IsSound pool (noticed q.message n why (without_front b))
sound_returned pool b q n why is sound =
    let leaves = front_leaves b q is (queues_of pool b sound) in
    let w = sound.within in
    let back : Notice = record { message = q.message; bounces = n; why = why } in
    sound_by pool (noticed q.message n why (without_front b))
    (record {
      requests = omega (arith, w.requests, leaves.requests, sum_by_push (λ (x : Notice). cond (is_request x.message) 1 0) b.notices back);
      replies = omega (arith, w.replies, leaves.replies, sum_by_push (λ (x : Notice). cond (is_reply x.message) 1 0) b.notices back);
      awaited = omega (arith, w.awaited, (count_le is_arrived (waits_for q.message.serial) b.awaited).2);
      received = w.received;
      answers = omega (arith, w.answers, waiting_kept q.message.serial b.awaited);
    })
    (record { requests = leaves.queues.requests; replies = leaves.queues.replies })
    (record { indexes = sound.indexes; credits = sound.credits; in_flight = sound.in_flight })

-- the front message is carried
sound_judged : (pool : Option ℕ) (e : EndpointId) (s : State) (q : Queued) (limit : ℕ) (v : Verdict) → front s ≡ Some q →
    (same_end e q.message.dest ≡ true → v ≡ verdict s q.message) → IsSound pool s.body →
    IsSound pool (reached e (left s (judged limit q.message q.bounces v)) (judged limit q.message q.bounces v)).body
sound_judged pool e s q limit Verdicts.Accepted is here sound = by_end (same_end e q.message.dest) refl
  where
    by_end : (b : Bool) → same_end e q.message.dest ≡ b → IsSound pool (if b then put q.message (left s (Out.Accepted q.message)) else left s
        (Out.Accepted q.message)).body
    by_end true same = sound_put pool q.message (left s (Out.Accepted q.message)) (sym (here same)) (sound_gone pool s.body q is sound)
    by_end false same = sound_gone pool s.body q is sound
sound_judged pool e s q limit (Verdicts.Refused cause) is here sound = by_again (is_transient cause && nat_lt q.bounces limit)
  where
    by_again : (b : Bool) → let o = if b then Out.Requeued q.message cause (q.bounces + 1) else Out.Returned q.message cause in
        IsSound pool (reached e (left s o) o).body
    by_again true = sound_requeued pool s.body q (q.bounces + 1) is sound
    by_again false = sound_returned pool s.body q (bounces_of s.body.replies s.body.requests) (Whys.Refused cause) is sound

-- a carry from here keeps the body sound
pub sound_carried : (pool : Option ℕ) (limit : ℕ) (e : EndpointId) (s : State) (x : Entry) → MayCarry limit e s x → IsSound pool s.body →
    IsSound pool (after e s x).body
sound_carried pool limit e s x may sound =
    rw (may.event, may.outcome, same_end-refl e) (sound_judged pool e s may.queued limit may.verdict_there may.is_front may.here sound)

-- what an arrival makes of a state
arrival_sound : (pool : Option ℕ) (e : EndpointId) (s : State) (m : Message) (event : Event) (o : Outcome) → arrived_message event o ≡ Some m →
    arrival_verdict event o ≡ Some (verdict s m) → same_end e m.dest ≡ true → is_carry_from e event ≡ false → IsSound pool s.body →
    IsSound pool (changed e s event o).body
arrival_sound pool e s m (Events.Carry from) (Out.Accepted n) is judged here other sound =
    let same : n ≡ m = cc in
    let accepts : verdict s m ≡ Verdicts.Accepted = cc in
    let there : same_end e n.dest ≡ true = ap (λ (w : Message). same_end e w.dest) same ∙ here in
    rw (other, there) (sound_put pool n s (ap (verdict s) same ∙ accepts) sound)
arrival_sound pool e s m (Events.Carry from) (Out.Requeued n cause bounces) is judged here other sound = rw other sound
arrival_sound pool e s m (Events.Carry from) (Out.Returned n cause) is judged here other sound = rw other sound
arrival_sound pool e s m (Events.Receive node peer number) (Out.Received channel seq attempt (Got.Accepted n answer)) is judged here other sound =
    let same : n ≡ m = cc in
    let accepts : verdict s m ≡ Verdicts.Accepted = cc in
    sound_put pool n s (ap (verdict s) same ∙ accepts) sound
arrival_sound pool e s m (Events.Receive node peer number) (Out.Received channel seq attempt (Got.Refused n Causes.NotResident answer)) is judged here other
    sound = sound
arrival_sound pool e s m (Events.Receive node peer number) (Out.Received channel seq attempt (Got.Refused n cause answer)) is judged here other sound = sound
arrival_sound pool e s m event o is judged here other sound = absurd (cc)

-- an arrival keeps the body sound
pub sound_arrived : (pool : Option ℕ) (e : EndpointId) (s : State) (x : Entry) → MayArrive e s x → IsSound pool s.body → IsSound pool (after e s x).body
sound_arrived pool e s x may sound = arrival_sound pool e s may.message x.event x.outcome may.is_message may.judged may.here may.elsewhere sound

-- flights end

sound_landed : (pool : Option ℕ) (serial : Serial) (b : Body) → IsSound pool b → IsSound pool (without_flight serial b)
sound_landed pool serial b sound =
    let w = sound.within in
    sound_by pool (without_flight serial b)
    (record {
      requests = omega (arith, w.requests, (count_le (λ (f : Flying). is_request f.message) (λ (f : Flying). has_serial serial f.message) b.in_flight).0);
      replies = omega (arith, w.replies, (count_le (λ (f : Flying). is_reply f.message) (λ (f : Flying). has_serial serial f.message) b.in_flight).0);
      awaited = w.awaited;
      received = w.received;
      answers = w.answers;
    })
    (record { requests = sound.requests; replies = sound.replies })
    (record {
      indexes = sound.indexes;
      credits = sound.credits;
      in_flight = all_without is_flight_formed (λ (f : Flying). has_serial serial f.message) b.in_flight sound.in_flight;
    })

-- what lands leaves a slot of its kind
landed_counts : (p : Message → Bool) (serial : Serial) (fs : List Flying) (f : Flying) → flying_of serial fs ≡ Some f →
    count_by (λ (g : Flying). p g.message) (without_first (λ (g : Flying). has_serial serial g.message) fs) + bit (p f.message) ≡ count_by
    (λ (g : Flying). p g.message) fs
landed_counts p serial [] f e = absurd (cc)
landed_counts p serial (g ∷ fs) f e = by_test p serial g fs f (has_serial serial g.message) e (landed_counts p serial fs f)
  where
    by_test : (p : Message → Bool) (serial : Serial) (g : Flying) (fs : List Flying) (f : Flying) (b : Bool) →
        (if b then Some g else flying_of serial fs) ≡ Some f → (flying_of serial fs ≡ Some f →
        count_by (λ (h : Flying). p h.message) (without_first (λ (h : Flying). has_serial serial h.message) fs) + bit (p f.message) ≡ count_by
        (λ (h : Flying). p h.message) fs) → count_by (λ (h : Flying). p h.message) (if b then fs else g ∷ without_first
        (λ (h : Flying). has_serial serial h.message) fs) + bit (p f.message) ≡ count_by (λ (h : Flying). p h.message) (g ∷ fs)
    by_test p serial g fs f true is more = let same : g ≡ f = cc in omega (
      arith,
      sum_by-cons (λ (h : Flying). cond (p h.message) 1 0) g fs,
      ap (λ (h : Flying). bit (p h.message)) same,
    )
    by_test p serial g fs f false is more =
        omega (
          arith,
          more is,
          sum_by-cons (λ (h : Flying). cond (p h.message) 1 0) g fs,
          sum_by-cons (λ (h : Flying). cond (p h.message) 1 0) g (without_first (λ (h : Flying). has_serial serial h.message) fs),
        )

-- a flight goes back to its queue
sound_flight_requeued : (pool : Option ℕ) (serial : Serial) (n : ℕ) (b : Body) (flight : Option Flying) → flying_of serial b.in_flight ≡ flight →
    IsSound pool b → IsSound pool (requeued_flight flight n (without_flight serial b))
sound_flight_requeued pool serial n b None is sound = sound_landed pool serial b sound
sound_flight_requeued pool serial n b (Some f) is sound =
    let w = sound.within in
    let lands = sound_landed pool serial b sound in
    sound_by pool (requeued_flight (Some f) n (without_flight serial b))
    (record {
      requests = omega (arith, w.requests, landed_counts is_request serial b.in_flight f is, length_appended (is_request f.message) f.message n b.requests);
      replies = omega (arith, w.replies, landed_counts is_reply serial b.in_flight f is, length_appended (is_reply f.message) f.message n b.replies);
      awaited = w.awaited;
      received = w.received;
      answers = w.answers;
    })
    (queues_queued f.message n (without_flight serial b) (all_found is_flight_formed (λ (g : Flying). has_serial serial g.message) b.in_flight f sound.in_flight
    is) (queues_of pool (without_flight serial b) lands))
    (record { indexes = lands.indexes; credits = lands.credits; in_flight = lands.in_flight })

-- a flight comes back
sound_flight_returned : (pool : Option ℕ) (serial : Serial) (why : Why) (b : Body) (flight : Option Flying) → flying_of serial b.in_flight ≡ flight →
    IsSound pool b → IsSound pool (returned_flight serial flight why (without_flight serial b))
sound_flight_returned pool serial why b None is sound =
    let lands = sound_landed pool serial b sound in
    let w = lands.within in
    let same : b.notices ++ [] ≡ b.notices = append-nil b.notices in
    sound_by pool (returned_flight serial None why (without_flight serial b))
    (record {
      requests = rw same w.requests;
      replies = rw same w.replies;
      awaited = omega (arith, w.awaited, (count_le is_arrived (waits_for serial) b.awaited).2);
      received = w.received;
      answers = omega (arith, w.answers, waiting_kept serial b.awaited);
    })
    (record { requests = lands.requests; replies = lands.replies })
    (record { indexes = lands.indexes; credits = lands.credits; in_flight = lands.in_flight })
sound_flight_returned pool serial why b (Some f) is sound =
    let lands = sound_landed pool serial b sound in
    let w = sound.within in
    let back : Notice = record { message = f.message; bounces = f.bounces; why = why } in
    sound_by pool (returned_flight serial (Some f) why (without_flight serial b))
    (record {
      requests = omega (
        arith,
        w.requests,
        landed_counts is_request serial b.in_flight f is,
        sum_by_push (λ (x : Notice). cond (is_request x.message) 1 0) b.notices back,
      );
      replies = omega (
        arith,
        w.replies,
        landed_counts is_reply serial b.in_flight f is,
        sum_by_push (λ (x : Notice). cond (is_reply x.message) 1 0) b.notices back,
      );
      awaited = omega (arith, w.awaited, (count_le is_arrived (waits_for serial) b.awaited).2);
      received = w.received;
      answers = omega (arith, w.answers, waiting_kept serial b.awaited);
    })
    (record { requests = lands.requests; replies = lands.replies })
    (record { indexes = lands.indexes; credits = lands.credits; in_flight = lands.in_flight })

-- an answer that counts keeps the body sound
sound_settled : (pool : Option ℕ) (limit : ℕ) (e : EndpointId) (s : State) (m : Message) (bounces : ℕ) (v : Verdict) → IsSound pool s.body →
    IsSound pool (received e s (settle_by limit m bounces v)).body
sound_settled pool limit e s m bounces Verdicts.Accepted sound = sound_landed pool m.serial s.body sound
sound_settled pool limit e s m bounces (Verdicts.Refused cause) sound = by_again (is_transient cause && nat_lt bounces limit)
  where
    by_again : (b : Bool) → IsSound pool (received e s (if b then Got.Requeued m.serial cause (bounces + 1) else Got.Returned m.serial cause)).body
    by_again true = sound_flight_requeued pool m.serial (bounces + 1) s.body (flying_of m.serial s.body.in_flight) refl sound
    by_again false = sound_flight_returned pool m.serial (Whys.Refused cause) s.body (flying_of m.serial s.body.in_flight) refl sound

sound_given_up : (pool : Option ℕ) (s : State) (f : Flying) → IsSound pool s.body → IsSound pool (expired s (tries_used_up f)).body
sound_given_up pool s f sound = by_test f.answered
  where
    by_test : (b : Bool) → IsSound pool (expired s (if b then Out.Delivered f.message.serial else Out.Unknown f.message.serial)).body
    by_test true = sound_landed pool f.message.serial s.body sound
    by_test false = sound_flight_returned pool f.message.serial Whys.Unknown s.body (flying_of f.message.serial s.body.in_flight) refl sound

-- what ends a flight keeps the body sound
pub flight_sound : (pool : Option ℕ) (limit : ℕ) (e : EndpointId) (s : State) (f : Flying) (event : Event) (o : Outcome) → EndsFlight limit f event o →
    IsSound pool s.body → IsSound pool (changed e s event o).body
flight_sound pool limit e s f (Events.Receive node peer number) (Out.Received channel seq attempt result) ends sound =
    subst (λ (r : Received). IsSound pool (received e s r).body) (sym ends.1) (sound_settled pool limit e s f.message f.bounces ends.0 sound)
flight_sound pool limit e s f (Events.Expire node peer channel) o ends sound =
    subst (λ (w : Outcome). IsSound pool (expired s w).body) (sym ends) (sound_given_up pool s f sound)
flight_sound pool limit e s f event o ends sound = absurd ends

-- the front message is bound to a channel
pub sound_bound : (pool : Option ℕ) (s : State) (q : Queued) (peer : NodeId) (channel seq attempt number : ℕ) → front s ≡ Some q → IsSound pool s.body →
    IsSound pool (bound s (Out.Sent q.message peer channel seq attempt number)).body
sound_bound pool s q peer channel seq attempt number is sound =
    let b = s.body in
    let leaves = front_leaves b q is (queues_of pool b sound) in
    let w = sound.within in
    let flight : Flying = record { message = q.message; bounces = bounces_of b.replies b.requests; answered = false } in
    sound_by pool (bound s (Out.Sent q.message peer channel seq attempt number)).body
    (record {
      requests = omega (arith, w.requests, leaves.requests, sum_by_push (λ (x : Flying). cond (is_request x.message) 1 0) b.in_flight flight);
      replies = omega (arith, w.replies, leaves.replies, sum_by_push (λ (x : Flying). cond (is_reply x.message) 1 0) b.in_flight flight);
      awaited = w.awaited;
      received = w.received;
      answers = w.answers;
    })
    (record { requests = leaves.queues.requests; replies = leaves.queues.replies })
    (record { indexes = sound.indexes; credits = sound.credits; in_flight = all_push is_flight_formed b.in_flight flight sound.in_flight leaves.formed })

-- an entry accepts one message at most
pub accepted_after : (e : EndpointId) (s : State) (x : Entry) → (after e s x).body.accepted ≤ s.body.accepted + 1
accepted_after e s x = by_event x.event refl
  where
    by_event : (event : Event) → x.event ≡ event → (changed e s x.event x.outcome).body.accepted ≤ s.body.accepted + 1
    by_event (Events.Call actor end call) is = rw is (call_counts_one s call x.outcome)
    by_event event is = omega (arith, ap (λ (w : Own). w.accepted) (own_kept e s x.event x.outcome (ap is_call is)))
