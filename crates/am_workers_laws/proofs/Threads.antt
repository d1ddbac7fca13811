-- Who made an entry, and what each thread made of a journal.
use Rattle.std.specs.Prelude.{filter_map}
use Rattle.std.specs.List.{filter, list_all, list_any, count_by, cons_option}
use Rattle.std.proofs.Common.{◌≡◌, inl, inr, ℕ, ◌==◌, ◌≤◌, Bool, true, false, cond, ◌||◌, List, [], ◌∷◌, length, Option, Some, None, refl, sym, ap, ◌∙◌, subst}
use Rattle.std.proofs.Common.{arith, eqb-true, true≢false, Contains}
use Rattle.std.proofs.lemmas.Bool.{and_from}
use Rattle.std.proofs.lemmas.List.Sums.{length-filter}
use Rattle.am_names.specs.declared.NodeId.{NodeId}
use Rattle.am_office_entries.specs.declared.Actor.{Actor}
use Rattle.am_office_entries.specs.declared.Actor.TheVariants.{Thread, Outside}
use Rattle.am_office_entries.specs.declared.Event.{Event}
use Rattle.am_office_entries.specs.declared.Event.TheVariants as Events
use Rattle.am_office_entries.specs.declared.Entry.{Entry}
use Rattle.am_office_entries.specs.Entries.{is_node, node_touched}
use Rattle.am_model.specs.Merge.{is_ordered}
use Rattle.am_scenario_types.specs.declared.parts.ScriptCall.{ScriptCall}
use Rattle.am_scenario_types.specs.Lists.{ScenarioLists}
use Rattle.am_model_merge.proofs.Sorted.{Has, contains_has, filter_has, has_contains, has_filter, ordered_filter, rising_ordered, same_list}
use Rattle.am_model_scripts.specs.Scripts.{call_made, calls_of, is_of_thread}
use Rattle.am_model_scripts.specs.Follows.{is_actor_thread, is_by_outside, is_by_thread, is_of_run, is_thread}
use Rattle.am_model.specs.Parts.{driver_of}
use Rattle.am_workers_laws.specs.Phases.Crew.{AreThreads, ByDriver, ByInterface, ByThread, IsMade}
use Rattle.am_workers_laws.proofs.Splits.{all_at}

-- ---- what kind of event each maker makes

-- the event is of another kind than a thread's
abbrev pub IsOfPart : ScenarioLists → Event → Type 0
IsOfPart s e = ((t : ℕ) → is_by_thread t e ≡ false) × (is_by_outside e ≡ false) × (is_of_run s e ≡ true)

pub by_interface : (s : ScenarioLists) (node : NodeId) (e : Event) → is_node node (node_touched e) ≡ true → IsOfPart s e
by_interface s node (Events.Bind at end) h = ((λ t. refl), refl, refl)
by_interface s node (Events.Expire at peer channel) h = ((λ t. refl), refl, refl)
by_interface s node (Events.Receive at peer number) h = ((λ t. refl), refl, refl)
by_interface s node e h = absurd (cc)

pub by_driver : (s : ScenarioLists) (node : NodeId) (e : Event) → is_node node (driver_of e) ≡ true → IsOfPart s e
by_driver s node (Events.Drain at end) h = ((λ t. refl), refl, refl)
by_driver s node (Events.Unload at end) h = ((λ t. refl), refl, refl)
by_driver s node (Events.Load at end frame) h = ((λ t. refl), refl, refl)
by_driver s node (Events.PageOut at end) h = ((λ t. refl), refl, refl)
by_driver s node (Events.PageIn at end) h = ((λ t. refl), refl, refl)
by_driver s node e h = absurd (cc)

-- the event is the thread's
abbrev pub IsOfThread : ScenarioLists → ℕ → Event → Type 0
IsOfThread s t e = ((u : ℕ) → is_by_thread u e ≡ true → u ≡ t) × (is_by_outside e ≡ false) × (is_of_run s e ≡ true)

of_actor : (s : ScenarioLists) (t : ℕ) (a : Actor) → is_actor_thread t a ≡ true → (u : ℕ) → is_actor_thread u a ≡ true → u ≡ t
of_actor s t (Thread n) h u g = eqb-true u n g ∙ sym (eqb-true t n h)
of_actor s t Outside h u g = absurd (cc)

pub by_thread : (s : ScenarioLists) (t : ℕ) (e : Event) → is_by_thread t e ≡ true → is_thread s t ≡ true → IsOfThread s t e
by_thread s t (Events.Call (Thread n) end call) h is = (of_actor s t (Thread n) h, refl, ap (is_thread s) (sym (eqb-true t n h)) ∙ is)
by_thread s t (Events.Want (Thread n) end) h is = (of_actor s t (Thread n) h, refl, ap (is_thread s) (sym (eqb-true t n h)) ∙ is)
by_thread s t (Events.Call Outside end call) h is = absurd (cc)
by_thread s t (Events.Want Outside end) h is = absurd (cc)
by_thread s t e h is = absurd (cc)

-- ---- each entry of the journal

-- the entry comes from a worker, and is one that a run may have
pub record IsOfRun (s : ScenarioLists) (x : Entry) : Type 0 where
  pub inside : is_by_outside x.event ≡ false
  pub may : is_of_run s x.event ≡ true

pub of_run : (s : ScenarioLists) (made : ℕ → List Entry) (x : Entry) → AreThreads s made → IsMade made x → IsOfRun s x
of_run s made x threads (ByThread t c) =
    let is = by_thread s t x.event (all_at (λ (y : Entry). is_by_thread t y.event ≡ true) (made t) x (threads.own t) (contains_has (made t) x c))
    (threads.declared t x c) in
    record { inside = is.1; may = is.2 }
of_run s made x threads (ByInterface node h) = let is = by_interface s node x.event h in record { inside = is.1; may = is.2 }
of_run s made x threads (ByDriver node h) = let is = by_driver s node x.event h in record { inside = is.1; may = is.2 }

pub none_outside : (s : ScenarioLists) (xs : List Entry) → ((x : Entry) → Has xs x → IsOfRun s x) → list_any (λ (x : Entry). is_by_outside x.event) xs ≡ false
none_outside s [] h = refl
none_outside s (x ∷ xs) h =
    (λ i. (h x (inl refl)).inside i || list_any (λ (y : Entry). is_by_outside y.event) xs) ∙ none_outside s xs (λ y there. h y (inr there))

pub all_of_run : (s : ScenarioLists) (xs : List Entry) → ((x : Entry) → Has xs x → IsOfRun s x) → list_all (λ (x : Entry). is_of_run s x.event) xs ≡ true
all_of_run s [] h = refl
all_of_run s (x ∷ xs) h =
    and_from (is_of_run s x.event) (list_all (λ (y : Entry). is_of_run s y.event) xs) (h x (inl refl)).may (all_of_run s xs (λ y there. h y (inr there)))

-- ---- what a thread made

abbrev pub is_by : ℕ → Entry → Bool
is_by t x = is_by_thread t x.event

-- an entry of the journal that is the thread's is one that it made
thread_has : (s : ScenarioLists) (made : ℕ → List Entry) (t : ℕ) (x : Entry) → AreThreads s made → IsMade made x → is_by t x ≡ true → Has (made t) x
thread_has s made t x threads (ByThread u c) is =
    let here = contains_has (made u) x c in
    let kind = by_thread s u x.event (all_at (λ (y : Entry). is_by_thread u y.event ≡ true) (made u) x (threads.own u) here) (threads.declared u x c) in
    subst (λ (n : ℕ). Has (made n) x) (sym (kind.0 t is)) here
thread_has s made t x threads (ByInterface node h) is = absurd (true≢false (sym is ∙ (by_interface s node x.event h).0 t))
thread_has s made t x threads (ByDriver node h) is = absurd (true≢false (sym is ∙ (by_driver s node x.event h).0 t))

-- what the journal has of a thread is what the thread made
pub of_thread : (s : ScenarioLists) (made : ℕ → List Entry) (journal : List Entry) (t : ℕ) → AreThreads s made → is_ordered journal ≡ true →
    ((x : Entry) → Has journal x → IsMade made x) → ((x : Entry) → Contains (made t) x → Contains journal x) → filter (is_by t) journal ≡ made t
of_thread s made journal t threads ordered makers whole =
    same_list (filter (is_by t) journal) (made t) (ordered_filter (is_by t) journal ordered) (rising_ordered (made t) (threads.rising t))
    (λ z h. (let r = has_filter (is_by t) journal z h in thread_has s made t z threads (makers z r.0) r.1))
    (λ z h. filter_has (is_by t) journal z (contains_has journal z (whole z (has_contains (made t) z h)))
    (all_at (λ (y : Entry). is_by_thread t y.event ≡ true) (made t) z (threads.own t) h))

-- the calls of a thread are among what it made
call_test : (t : ℕ) (e : Event) (c : ScriptCall) → call_made e ≡ Some c → is_by_thread t e ≡ is_of_thread t c
call_test t (Events.Call (Thread n) end call) c h =
    let same : n ≡ c.thread = cc in ap (λ (k : ℕ). t == k) same
call_test t (Events.Call Outside end call) c h = absurd (cc)
call_test t e c h = absurd (cc)

pub calls_within : (t : ℕ) (xs : List Entry) → calls_of t (filter (is_by t) xs) ≡ calls_of t xs
calls_within t [] = refl
calls_within t (x ∷ xs) = by_call (call_made x.event) refl (is_by t x) refl (calls_within t xs)
  where
    rest : List Entry
    rest = filter (is_by t) xs

    same : (o : Option ScriptCall) → calls_of t rest ≡ calls_of t xs →
        filter (is_of_thread t) (cons_option o (filter_map (λ (y : Entry). call_made y.event) rest)) ≡ filter (is_of_thread t)
        (cons_option o (filter_map (λ (y : Entry). call_made y.event) xs))
    same None more = more
    same (Some c) more = λ i. cond (is_of_thread t c) (c ∷ more i) (more i)

    skip : (o : Option ScriptCall) → call_made x.event ≡ o → is_by t x ≡ false → calls_of t rest ≡ calls_of t xs →
        calls_of t rest ≡ filter (is_of_thread t) (cons_option o (filter_map (λ (y : Entry). call_made y.event) xs))
    skip None is off more = more
    skip (Some c) is off more = more ∙ sym (λ i. cond ((sym (call_test t x.event c is) ∙ off) i) (c ∷ calls_of t xs) (calls_of t xs))

    by_call : (o : Option ScriptCall) → call_made x.event ≡ o → (b : Bool) → is_by t x ≡ b → calls_of t rest ≡ calls_of t xs →
        calls_of t (cond b (x ∷ rest) rest) ≡ filter (is_of_thread t) (cons_option (call_made x.event) (filter_map (λ (y : Entry). call_made y.event) xs))
    by_call o is true on more = same (call_made x.event) more
    by_call o is false off more = skip (call_made x.event) refl off more

pub few_of : (p : Entry → Bool) (journal log : List Entry) (n : ℕ) → filter p journal ≡ log → length log ≤ n → count_by p journal ≤ n
few_of p journal log n is few = let counts = length-filter p journal in let same : length (filter p journal) ≡ length log = ap length is in
    omega (arith, counts, same, few)
