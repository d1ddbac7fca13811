-- A history that follows its scenario is the journal of a checked report.
use Rattle.std.proofs.Common.{◌≡◌, ℕ, zero, suc, ◌+◌, Bool, true, false, ◌||◌, List, [], ◌∷◌, ◌++◌, map, length, drop, Some, None, refl, sym, ap, ◌∙◌, subst}
use Rattle.std.proofs.Common.{append_assoc, arith, length-append, add-one, eqb-true, ⊎_elim}
use Rattle.std.specs.Prelude.{slice_get, not, filter, filter_map, ◌==◌}
use Rattle.std.specs.List.{AllByRecursion, list_all, list_any, range_with_len}
use Rattle.std.proofs.lemmas.Bool.{and_parts, or_cases, eq-eqb}
use Rattle.std.proofs.lemmas.List.{length-map}
use Rattle.std.proofs.lemmas.List.Elements.{filter-append, filter_map-append}
use Rattle.am_lemmas.proofs.Lists.{slice_get-append_seam}
use Rattle.am_names.specs.declared.NodeId.{NodeId}
use Rattle.am_office_entries.specs.declared.Actor.TheVariants.{Thread, Outside}
use Rattle.am_office_entries.specs.declared.Event.{Event}
use Rattle.am_office_entries.specs.declared.Event.TheVariants as Events
use Rattle.am_office_entries.specs.declared.Entry.{Entry}
use Rattle.am_check.specs.Follows.{Comes, ComesInRun, IsBegun, IsEnded, IsNextCall}
use Rattle.am_check.specs.Laws.Laws.{IsStepHistory, IsRunHistory, IsHistoryOf}
use Rattle.am_model_drain.proofs.Entries.{entry_is_step}
use Rattle.am_model_drain.specs.Made.{next_entry}
use Rattle.am_model_scripts.specs.Layout.{layout_of, events_of}
use Rattle.am_model_scripts.proofs.StepMakers.{walked_more}
use Rattle.am_model_scripts.specs.Steps.Laws.{IsUnstopped, Walked}
use Rattle.am_model.specs.History.{EachAfter, MayFollow}
use Rattle.am_model.specs.Layout.{Layout}
use Rattle.am_model.specs.Steps.{step_entry}
use Rattle.am_scenario_types.specs.declared.parts.Form.{Form}
use Rattle.am_scenario_types.specs.declared.parts.Form.TheVariants.{Step, Run}
use Rattle.am_scenario_types.specs.declared.parts.ScriptCall.{ScriptCall}
use Rattle.am_scenario_types.specs.declared.parts.StepLine.{StepLine}
use Rattle.am_scenario_types.specs.declared.parts.ThreadLine.{ThreadLine}
use Rattle.am_scenario_types.specs.Lists.{ScenarioLists}
use Rattle.am_model_scripts.specs.Links.{due, first_some, nodes_of, numbers_released, receipt, receipt_at, received, IsReceiptInOrder, is_all_received}
use Rattle.am_model_scripts.specs.Scripts.{KeepsScripts, call_left, call_made, calls_of, is_of_thread, script_of}
use Rattle.am_model_scripts.specs.Follows.{is_last, is_of_run}

-- what two laws give together, each entry has
each_of_two : (P Q R : List Entry → Entry → Type 0) → ((past : List Entry) (x : Entry) → P past x → Q past x → R past x) → (past xs : List Entry) →
    EachAfter P past xs → EachAfter Q past xs → EachAfter R past xs
each_of_two P Q R both past [] p q = tt
each_of_two P Q R both past (x ∷ xs) p q = (both past x p.0 q.0, each_of_two P Q R both (past ++ x ∷ []) xs p.1 q.1)

each_of_all : (test : Entry → Bool) (past xs : List Entry) → list_all test xs ≡ true → EachAfter (λ (p : List Entry) (x : Entry). test x ≡ true) past xs
each_of_all test past [] h = tt
each_of_all test past (x ∷ xs) h = let p = and_parts (test x) (list_all test xs) h in (p.0, each_of_all test (past ++ x ∷ []) xs p.1)

-- ---- each entry is the one that the machine makes

long_by_one : (past : List Entry) (x : Entry) → length (past ++ x ∷ []) ≡ suc (length past)
long_by_one past x = length-append past (x ∷ []) ∙ add-one (length past)

all_made : (layout : Layout) (past xs : List Entry) → Walked layout past → EachAfter (MayFollow layout) past xs →
    map (λ (x : Entry). x.stamp) xs ≡ range_with_len (length past + 1) (length xs) →
    EachAfter (λ (p : List Entry) (x : Entry). x ≡ next_entry layout p x.event) past xs
all_made layout past [] walked follow stamps = tt
all_made layout past (x ∷ xs) walked follow stamps =
    let first : x.stamp ≡ length past + 1 = cc in
    let rest : map (λ (y : Entry). y.stamp) xs ≡ range_with_len (length past + 1 + 1) (length xs) = cc in
    let outcome = follow.0.outcome in
    let same : x ≡ step_entry layout past x.event = λ i. record { stamp = first i; event = x.event; outcome = outcome i } in
    let more : Walked layout (past ++ x ∷ []) = subst (λ (z : Entry). Walked layout (past ++ z ∷ [])) (sym same)
    (walked_more layout past x.event walked follow.0.in_range follow.0.enabled) in
    let next : length past + 1 + 1 ≡ length (past ++ x ∷ []) + 1 = omega (arith, long_by_one past x) in (
      same ∙ sym (entry_is_step layout past x.event walked),
      all_made layout (past ++ x ∷ []) xs more follow.1 (rest
          ∙ ap (λ (n : ℕ). range_with_len n (length xs)) next),
    )

none_walked : (layout : Layout) → Walked layout []
none_walked layout = record { history = tt; stamped = refl; below = tt }

-- ---- the lines of a step script

got_at : {X : Type 0} (xs : List X) (k : ℕ) (x : X) (rest : List X) → x ∷ rest ≡ drop k xs → (slice_get xs k ≡ Some x) × (rest ≡ drop (suc k) xs)
got_at [] zero x rest e = absurd (cc)
got_at [] (suc k) x rest e = absurd (cc)
got_at (y ∷ ys) zero x rest e = let same : x ≡ y = cc in let others : rest ≡ ys = cc in (ap Some (sym same), others)
got_at (y ∷ ys) (suc k) x rest e = got_at ys k x rest e

all_told : (events : List Event) (past xs : List Entry) → map (λ (x : Entry). x.event) xs ≡ drop (length past) events →
    EachAfter (λ (p : List Entry) (x : Entry). slice_get events (length p) ≡ Some x.event) past xs
all_told events past [] h = tt
all_told events past (x ∷ xs) h =
    let p = got_at events (length past) x.event (map (λ (y : Entry). y.event) xs) h in
    (p.0, all_told events (past ++ x ∷ []) xs (p.1 ∙ ap (λ (n : ℕ). drop n events) (sym (long_by_one past x))))

step_begun : (s : ScenarioLists) (journal : List Entry) → IsStepHistory s journal → IsBegun Step s journal × IsEnded Step s journal
step_begun s journal h =
    let layout = layout_of s in
    let made = all_made layout [] journal (none_walked layout) h.history h.follows.stamped in
    let told = all_told (events_of s.steps) [] journal h.follows.in_order in
    let free = each_of_two
    (λ (p : List Entry) (x : Entry). x ≡ next_entry layout p x.event) (IsUnstopped layout)
    (λ (p : List Entry) (x : Entry). (x ≡ next_entry layout p x.event) × IsUnstopped layout p x)
    (λ p x a b. (a, b)) [] journal made h.unstopped in
    let begun = each_of_two
    (λ (p : List Entry) (x : Entry). (x ≡ next_entry layout p x.event) × IsUnstopped layout p x)
    (λ (p : List Entry) (x : Entry). slice_get (events_of s.steps) (length p) ≡ Some x.event) (Comes Step s)
    (λ p x a b. record { may = b; unstopped = a.1; in_time = λ never. never; made = a.0 }) [] journal free told in
    let long : length journal ≡ length s.steps = sym (length-map journal (λ (x : Entry). x.event)) ∙ ap length h.follows.in_order
    ∙ length-map s.steps (λ (step : StepLine). step.event) in
    (begun, long)

-- ---- the scripts of a run

-- what holds wherever a journal is parted, each entry has
each_by_parts : (Law : List Entry → Entry → Type 0) (past xs : List Entry) → ((front : List Entry) (x : Entry) (back : List Entry) →
    past ++ xs ≡ front ++ x ∷ back → Law front x) → EachAfter Law past xs
each_by_parts Law past [] law = tt
each_by_parts Law past (x ∷ xs) law = (
  law past x xs refl,
  each_by_parts Law (past ++ x ∷ []) xs
      (λ front y back e. law front y back (sym (append_assoc past (x ∷ []) xs) ∙ e)),
)

calls_parted : (thread : ℕ) (front : List Entry) (x : Entry) (back : List Entry) →
    calls_of thread (front ++ x ∷ back) ≡ calls_of thread front ++ calls_of thread (x ∷ back)
calls_parted thread front x back =
    ap (filter (is_of_thread thread)) (filter_map-append (λ (y : Entry). call_made y.event) front (x ∷ back))
    ∙ filter-append (is_of_thread thread) (filter_map (λ (y : Entry). call_made y.event) front) (filter_map (λ (y : Entry). call_made y.event) (x ∷ back))

-- the script of a declared thread
script_kept : (s : ScenarioLists) (journal : List Entry) (thread : ℕ) (threads : List ThreadLine) →
    AllByRecursion (λ (t : ThreadLine). calls_of t.id journal ≡ script_of s t.id) threads → list_any (λ (t : ThreadLine). t.id == thread) threads ≡ true →
    calls_of thread journal ≡ script_of s thread
script_kept s journal thread [] kept h = absurd (cc)
script_kept s journal thread (t ∷ threads) kept h =
    ⊎_elim
    (λ (here : (t.id == thread) ≡ true). subst (λ (n : ℕ). calls_of n journal ≡ script_of s n) (eqb-true t.id thread here) kept.0)
    (λ (there : list_any (λ (u : ThreadLine). u.id == thread) threads ≡ true). script_kept s journal thread threads kept.1 there)
    (or_cases (t.id == thread) (list_any (λ (u : ThreadLine). u.id == thread) threads) h)

first_call : (call : ScriptCall) (back : List Entry) (x : Entry) → call_made x.event ≡ Some call →
    calls_of call.thread (x ∷ back) ≡ call ∷ calls_of call.thread back
first_call call back x e = let own : (call.thread == call.thread) ≡ true = eq-eqb call.thread call.thread refl in rw (e, own) refl

next_is : (s : ScenarioLists) (journal front : List Entry) (x : Entry) (back : List Entry) (call : ScriptCall) → journal ≡ front ++ x ∷ back →
    call_made x.event ≡ Some call → calls_of call.thread journal ≡ script_of s call.thread → call_left s front call.thread ≡ Some call
next_is s journal front x back call parts made kept =
    let thread = call.thread in
    let whole : script_of s thread ≡ calls_of thread front ++ call ∷ calls_of thread back =
    sym kept ∙ ap (calls_of thread) parts ∙ calls_parted thread front x back
    ∙ ap (λ (l : List ScriptCall). calls_of thread front ++ l) (first_call call back x made) in
    ap (λ (l : List ScriptCall). slice_get l (length (calls_of thread front))) whole ∙ slice_get-append_seam (calls_of thread front) call (calls_of thread back)

next_call_is : (s : ScenarioLists) (journal front : List Entry) (x : Entry) (back : List Entry) (event : Event) → x.event ≡ event →
    journal ≡ front ++ x ∷ back → KeepsScripts s journal → is_of_run s event ≡ true → IsNextCall s front (call_made event)
next_call_is s journal front x back (Events.Call (Thread thread) end call) is parts kept may =
    next_is s journal front x back (record { thread = thread; endpoint = end; call = call }) parts (ap call_made is)
    (script_kept s journal thread s.threads kept may)
next_call_is s journal front x back (Events.Call Outside end call) is parts kept may = tt
next_call_is s journal front x back event is parts kept may = tt

-- whether each entry is of a run, wherever the journal is parted
of_run_at : (s : ScenarioLists) (front : List Entry) (x : Entry) (back : List Entry) →
    list_all (λ (y : Entry). is_of_run s y.event) (front ++ x ∷ back) ≡ true → is_of_run s x.event ≡ true
of_run_at s [] x back h = (and_parts (is_of_run s x.event) (list_all (λ (y : Entry). is_of_run s y.event) back) h).0
of_run_at s (y ∷ front) x back h = of_run_at s front x back (and_parts (is_of_run s y.event) (list_all (λ (z : Entry). is_of_run s z.event) (front ++ x ∷ back))
    h).1

all_next : (s : ScenarioLists) (journal : List Entry) → IsRunHistory s journal →
    EachAfter (λ (p : List Entry) (x : Entry). IsNextCall s p (call_made x.event)) [] journal
all_next s journal h =
    each_by_parts (λ (p : List Entry) (x : Entry). IsNextCall s p (call_made x.event)) [] journal
    (λ front x back parts. next_call_is s journal front x back x.event refl parts h.scripts
    (of_run_at s front x back (subst (λ (j : List Entry). list_all (λ (y : Entry). is_of_run s y.event) j ≡ true) parts h.events)))

not_early : (last received : Bool) → (not last || received) ≡ true → ¬ ((last ≡ true) × (received ≡ false))
not_early true true h = λ p. let no_bool = p.1 in cc
not_early true false h = λ p. cc
not_early false received h = λ p. let no_bool = p.0 in cc

-- ---- all that was released was received

none_at_end : (xs ys : List ℕ) → xs ≡ ys → slice_get ys (length xs) ≡ None
none_at_end xs ys e = ap (λ (l : List ℕ). slice_get ys (length l)) e ∙ past_end ys
  where
    past_end : (zs : List ℕ) → slice_get zs (length zs) ≡ None
    past_end [] = refl
    past_end (z ∷ zs) = past_end zs

none_from : (s : ScenarioLists) (journal : List Entry) (to : NodeId) (nodes : List NodeId) →
    AllByRecursion (λ (from : NodeId). received from to journal ≡ numbers_released s from to journal) nodes →
    first_some (map (λ (peer : NodeId). receipt to peer (due s peer to journal)) nodes) ≡ None
none_from s journal to [] all = refl
none_from s journal to (from ∷ nodes) all =
    let none : due s from to journal ≡ None = none_at_end (received from to journal) (numbers_released s from to journal) all.0 in
    rw none (none_from s journal to nodes all.1)

none_to : (s : ScenarioLists) (journal : List Entry) (nodes : List NodeId) →
    AllByRecursion (λ (to : NodeId). AllByRecursion (λ (from : NodeId). received from to journal ≡ numbers_released s from to journal) (nodes_of s)) nodes →
    first_some (map (receipt_at s journal) nodes) ≡ None
none_to s journal [] all = refl
none_to s journal (to ∷ nodes) all =
    let none : receipt_at s journal to ≡ None = none_from s journal to (nodes_of s) all.0 in
    rw none (none_to s journal nodes all.1)

run_begun : (s : ScenarioLists) (journal : List Entry) → IsRunHistory s journal → IsBegun Run s journal × IsEnded Run s journal
run_begun s journal h =
    let layout = layout_of s in
    let made = all_made layout [] journal (none_walked layout) h.history h.stamped in
    let free = each_of_two
    (λ (p : List Entry) (x : Entry). x ≡ next_entry layout p x.event) (IsUnstopped layout)
    (λ (p : List Entry) (x : Entry). (x ≡ next_entry layout p x.event) × IsUnstopped layout p x)
    (λ p x a b. (a, b)) [] journal made h.unstopped in
    let ranged = each_of_two
    (MayFollow layout) (λ (p : List Entry) (x : Entry). IsReceiptInOrder s p x.event)
    (λ (p : List Entry) (x : Entry). MayFollow layout p x × IsReceiptInOrder s p x.event)
    (λ p x a b. (a, b)) [] journal h.history h.links.in_order in
    let of_run = each_of_all (λ (x : Entry). is_of_run s x.event) [] journal h.events in
    let called = each_of_two
    (λ (p : List Entry) (x : Entry). is_of_run s x.event ≡ true) (λ (p : List Entry) (x : Entry). IsNextCall s p (call_made x.event))
    (λ (p : List Entry) (x : Entry). (is_of_run s x.event ≡ true) × IsNextCall s p (call_made x.event))
    (λ p x a b. (a, b)) [] journal of_run (all_next s journal h) in
    let may = each_of_two
    (λ (p : List Entry) (x : Entry). MayFollow layout p x × IsReceiptInOrder s p x.event)
    (λ (p : List Entry) (x : Entry). (is_of_run s x.event ≡ true) × IsNextCall s p (call_made x.event))
    (λ (p : List Entry) (x : Entry). ComesInRun s p x.event)
    (λ p x a b. record { in_range = a.0.in_range; of_run = b.0; next_call = b.1; receipt = a.1 }) [] journal ranged called in
    let timely = each_of_two
    (λ (p : List Entry) (x : Entry). ComesInRun s p x.event) (λ (p : List Entry) (x : Entry). (not (is_last s p x) || is_all_received s p) ≡ true)
    (λ (p : List Entry) (x : Entry). ComesInRun s p x.event × (¬ ((is_last s p x ≡ true) × (is_all_received s p ≡ false))))
    (λ p x a b. (a, not_early (is_last s p x) (is_all_received s p) b)) [] journal may h.last_tries in
    let begun = each_of_two
    (λ (p : List Entry) (x : Entry). (x ≡ next_entry layout p x.event) × IsUnstopped layout p x)
    (λ (p : List Entry) (x : Entry). ComesInRun s p x.event × (¬ ((is_last s p x ≡ true) × (is_all_received s p ≡ false))))
    (Comes Run s)
    (λ p x a b. record { may = b.0; unstopped = a.1; in_time = b.1; made = a.0 }) [] journal free timely in
    (begun, record { scripts = h.scripts; received = none_to s journal (nodes_of s) h.links.all; rest = h.rest })

pub begun_by : (form : Form) (s : ScenarioLists) (journal : List Entry) → IsHistoryOf form s journal → IsBegun form s journal × IsEnded form s journal
begun_by Step s journal h = step_begun s journal h
begun_by Run s journal h = run_begun s journal h
