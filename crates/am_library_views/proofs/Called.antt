-- The calls that the threads of a run make are those of the script.
use Rattle.std.proofs.Common.{◌≡◌, ℕ, ◌+◌, Bool, true, false, ◌||◌, ◌&&◌, Option, Some, None, List, [], ◌∷◌, refl, sym, ap, ◌∙◌, subst, filter_map, arith, eqb-true}
use Rattle.std.proofs.Common.{if◌then◌else◌}
use Rattle.std.specs.Prelude.{◌==◌, filter, find, sum_by}
use Rattle.std.specs.List.{All, list_all, list_any}
use Rattle.std.specs.Option.{option_map}
use Rattle.std.proofs.lemmas.Bool.{and_parts}
use Rattle.std.proofs.lemmas.List.Elements.{All-head, All-tail}
use Rattle.std.proofs.lemmas.List.Sums.{sum_by-cons}
use Rattle.am_names.specs.declared.NodeId.{NodeId}
use Rattle.am_office_entries.specs.declared.Actor.TheVariants.{Thread, Outside}
use Rattle.am_office_entries.specs.declared.Event.{Event}
use Rattle.am_office_entries.specs.declared.Event.TheVariants as Events
use Rattle.am_office_entries.specs.declared.Entry.{Entry}
use Rattle.am_scenario_types.specs.declared.parts.ScriptCall.{ScriptCall}
use Rattle.am_scenario_types.specs.declared.parts.ThreadLine.{ThreadLine}
use Rattle.am_scenario_types.specs.Lawful.{IsLawful, IsLawfulScriptCall, least_credits, thread_node}
use Rattle.am_scenario_types.specs.Lists.{ScenarioLists}
use Rattle.am_model_scripts.specs.Scripts.{KeepsScripts, call_made, is_of_thread}
use Rattle.am_model_scripts.specs.Follows.{KeepsToEvents, is_of_run}
use Rattle.am_library_views.proofs.Weights.{only, of, sum_both, sum_filter, sum_one, sum_same}

-- the call that an entry makes
abbrev pub made : Entry → Option ScriptCall
made x = call_made x.event

-- whether a thread is among these
abbrev pub is_in : List ThreadLine → ℕ → Bool
is_in threads t = list_any (λ (l : ThreadLine). l.id == t) threads

-- what the calls of these threads weigh
abbrev part : (ScriptCall → ℕ) → List ThreadLine → List ScriptCall → ℕ
part f threads calls = sum_by (λ (c : ScriptCall). only (is_in threads c.thread) (f c)) calls

apart : (a b : Bool) (n : ℕ) → (a ≡ true → b ≡ false) → only (a || b) n ≡ only a n + only b n
apart true b n never = let none : only b n ≡ 0 = ap (λ (t : Bool). only t n) (never refl) in omega (arith, none)
apart false b n never = omega arith

within : (a b : Bool) (n : ℕ) → (a ≡ true → b ≡ true) → only (a || b) n ≡ only b n
within true b n also = sym (ap (λ (t : Bool). only t n) (also refl))
within false b n also = refl

-- a thread more, which is not among the others
part_more : (f : ScriptCall → ℕ) (l : ThreadLine) (threads : List ThreadLine) (calls : List ScriptCall) → is_in threads l.id ≡ false →
    part f (l ∷ threads) calls ≡ sum_by f (filter (is_of_thread l.id) calls) + part f threads calls
part_more f l threads calls new =
    let one : ScriptCall → ℕ = λ (c : ScriptCall). only (l.id == c.thread) (f c) in
    let rest : ScriptCall → ℕ = λ (c : ScriptCall). only (is_in threads c.thread) (f c) in
    sum_same (λ (c : ScriptCall). only (is_in (l ∷ threads) c.thread) (f c)) (λ (c : ScriptCall). one c + rest c) calls
    (λ (c : ScriptCall). apart (l.id == c.thread) (is_in threads c.thread) (f c) (λ (same : (l.id == c.thread) ≡ true).
    subst (λ (t : ℕ). is_in threads t ≡ false) (eqb-true l.id c.thread same) new))
    ∙ sum_both one rest calls
    ∙ ap (λ (n : ℕ). n + part f threads calls) (sym (sum_filter f (is_of_thread l.id) calls))

-- one that is among them
part_again : (f : ScriptCall → ℕ) (l : ThreadLine) (threads : List ThreadLine) (calls : List ScriptCall) → is_in threads l.id ≡ true →
    part f (l ∷ threads) calls ≡ part f threads calls
part_again f l threads calls old =
    sum_same (λ (c : ScriptCall). only (is_in (l ∷ threads) c.thread) (f c)) (λ (c : ScriptCall). only (is_in threads c.thread) (f c)) calls
    (λ (c : ScriptCall). within (l.id == c.thread) (is_in threads c.thread) (f c) (λ (same : (l.id == c.thread) ≡ true).
    subst (λ (t : ℕ). is_in threads t ≡ true) (eqb-true l.id c.thread same) old))

none_in : (f : ScriptCall → ℕ) (calls : List ScriptCall) → part f [] calls ≡ 0
none_in f [] = refl
none_in f (c ∷ calls) = omega (arith, sum_by-cons (λ (d : ScriptCall). only (is_in [] d.thread) (f d)) c calls, none_in f calls)

-- where each thread makes the calls of its script
parts_same : (f : ScriptCall → ℕ) (s : ScenarioLists) (journal : List Entry) (threads : List ThreadLine) →
    KeepsScripts (record s { threads = threads }) journal → part f threads (filter_map made journal) ≡ part f threads s.script
parts_same f s journal [] scripts = none_in f (filter_map made journal) ∙ sym (none_in f s.script)
parts_same f s journal (l ∷ threads) scripts = by_test (parts_same f s journal threads scripts.1) (is_in threads l.id) refl
  where
    by_test : part f threads (filter_map made journal) ≡ part f threads s.script → (b : Bool) → is_in threads l.id ≡ b →
        part f (l ∷ threads) (filter_map made journal) ≡ part f (l ∷ threads) s.script
    by_test so_far true is = part_again f l threads (filter_map made journal) is ∙ so_far ∙ sym (part_again f l threads s.script is)
    by_test so_far false is =
        let here : sum_by f (filter (is_of_thread l.id) (filter_map made journal)) ≡ sum_by f (filter (is_of_thread l.id) s.script) =
        ap (λ (cs : List ScriptCall). sum_by f cs) scripts.0 in
        omega (
          arith,
          part_more f l threads (filter_map made journal) is,
          part_more f l threads s.script is,
          here,
          so_far,
        )

-- ---- each call is one of a declared thread

abbrev thread_in : ℕ → Option ScriptCall → ℕ
thread_in other None = other
thread_in other (Some c) = c.thread

declared_makes : (s : ScenarioLists) (event : Event) (c : ScriptCall) → is_of_run s event ≡ true → call_made event ≡ Some c → is_in s.threads c.thread ≡ true
declared_makes s (Events.Call (Thread t) end call) c run is =
    let same : t ≡ c.thread = ap (λ (o : Option ScriptCall). thread_in t o) is in subst (λ (k : ℕ). is_in s.threads k ≡ true) same run
declared_makes s (Events.Call Outside end call) c run is = absurd (cc)
declared_makes s event c run is = absurd (cc)

whole_made : (f : ScriptCall → ℕ) (s : ScenarioLists) (journal : List Entry) → list_all (λ (x : Entry). is_of_run s x.event) journal ≡ true →
    part f s.threads (filter_map made journal) ≡ sum_by f (filter_map made journal)
whole_made f s [] run = refl
whole_made f s (x ∷ journal) run =
    let parts = and_parts (is_of_run s x.event) (list_all (λ (y : Entry). is_of_run s y.event) journal) run in
    by_call (made x) refl parts.0 (whole_made f s journal parts.1)
  where
    by_call : (o : Option ScriptCall) → made x ≡ o → is_of_run s x.event ≡ true →
        part f s.threads (filter_map made journal) ≡ sum_by f (filter_map made journal) →
        part f s.threads (filter_map made (x ∷ journal)) ≡ sum_by f (filter_map made (x ∷ journal))
    by_call None is own so_far =
        let none : of (λ (c : ScriptCall). only (is_in s.threads c.thread) (f c)) (made x) ≡ 0 =
        ap (λ (o : Option ScriptCall). of (λ (c : ScriptCall). only (is_in s.threads c.thread) (f c)) o) is in
        let no : of f (made x) ≡ 0 = ap (λ (o : Option ScriptCall). of f o) is in
        omega (arith, sum_one made (λ (c : ScriptCall). only (is_in s.threads c.thread) (f c)) x journal, sum_one made f x journal, none, no, so_far)
    by_call (Some c) is own so_far =
        let here : of (λ (d : ScriptCall). only (is_in s.threads d.thread) (f d)) (made x) ≡ f c =
        ap (λ (o : Option ScriptCall). of (λ (d : ScriptCall). only (is_in s.threads d.thread) (f d)) o) is
        ∙ ap (λ (b : Bool). only b (f c)) (declared_makes s x.event c own is) in
        let there : of f (made x) ≡ f c = ap (λ (o : Option ScriptCall). of f o) is in
        omega (arith, sum_one made (λ (d : ScriptCall). only (is_in s.threads d.thread) (f d)) x journal, sum_one made f x journal, here, there, so_far)

pub declared_there : (threads : List ThreadLine) (t : ℕ) (node : NodeId) → thread_node threads t ≡ Some node → is_in threads t ≡ true
declared_there [] t node is = absurd (cc)
declared_there (l ∷ threads) t node is = by_test (declared_there threads t node) (l.id == t) is
  where
    by_test : (thread_node threads t ≡ Some node → is_in threads t ≡ true) → (b : Bool) →
        option_map (λ (k : ThreadLine). k.node) (if b then Some l else find (λ (k : ThreadLine). k.id == t) threads) ≡ Some node → (b || is_in threads t) ≡ true
    by_test later true found = refl
    by_test later false found = later found

-- each of these calls is of a declared thread
abbrev pub AreDeclared : List ThreadLine → List ScriptCall → Type 0
AreDeclared threads calls = list_all (λ (c : ScriptCall). is_in threads c.thread) calls ≡ true

whole_script : (f : ScriptCall → ℕ) (threads : List ThreadLine) (calls : List ScriptCall) → AreDeclared threads calls → part f threads calls ≡ sum_by f calls
whole_script f threads [] all = refl
whole_script f threads (c ∷ calls) all =
    let parts = and_parts (is_in threads c.thread) (list_all (λ (d : ScriptCall). is_in threads d.thread) calls) all in
    let here : only (is_in threads c.thread) (f c) ≡ f c = ap (λ (b : Bool). only b (f c)) parts.0 in
    omega (
      arith,
      sum_by-cons (λ (d : ScriptCall). only (is_in threads d.thread) (f d)) c calls,
      sum_by-cons f c calls,
      here,
      whole_script f threads calls parts.1,
    )

-- the calls of the threads weigh what the script weighs
pub calls_weigh : (f : ScriptCall → ℕ) (s : ScenarioLists) (journal : List Entry) → AreDeclared s.threads s.script → KeepsScripts s journal →
    KeepsToEvents s journal → sum_by f (filter_map made journal) ≡ sum_by f s.script
calls_weigh f s journal declared scripts events =
    sym (whole_made f s journal events) ∙ parts_same f s journal s.threads scripts ∙ whole_script f s.threads s.script declared

pub both_pass : (a b : Bool) → a ≡ true → b ≡ true → (a && b) ≡ true
both_pass a b first second = λ i. first i && second i

are_declared : (s : ScenarioLists) (calls : List ScriptCall) → All (IsLawfulScriptCall s.ends s.threads (least_credits s.pool)) calls →
    AreDeclared s.threads calls
are_declared s [] all = refl
are_declared s (c ∷ calls) all =
    let lawful = All-head (IsLawfulScriptCall s.ends s.threads (least_credits s.pool)) c calls all in
    both_pass (is_in s.threads c.thread) (list_all (λ (d : ScriptCall). is_in s.threads d.thread) calls)
    (declared_there s.threads c.thread lawful.placed.0 lawful.placed.1.0)
    (are_declared s calls (All-tail (IsLawfulScriptCall s.ends s.threads (least_credits s.pool)) c calls all))

-- those of a lawful script are
pub lawful_declared : (s : ScenarioLists) → IsLawful s → AreDeclared s.threads s.script
lawful_declared s lawful = are_declared s s.script lawful.script

pub calls_are_script : (f : ScriptCall → ℕ) (s : ScenarioLists) (journal : List Entry) → IsLawful s → KeepsScripts s journal → KeepsToEvents s journal →
    sum_by f (filter_map made journal) ≡ sum_by f s.script
calls_are_script f s journal lawful scripts events = calls_weigh f s journal (lawful_declared s lawful) scripts events
