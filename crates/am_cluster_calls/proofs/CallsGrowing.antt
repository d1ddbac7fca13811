-- The threads after one entry more.
use Rattle.std.specs.Prelude.{slice_get}
use Rattle.std.specs.List.{filter, filter_map, cons_option}
use Rattle.std.proofs.Common.{◌≡◌, ℕ, ◌+◌, ◌*◌, ◌≤◌, Bool, true, false, cond, List, [], ◌∷◌, ◌++◌, map, length, Option, Some, None, refl, sym, ap, ◌∙◌}
use Rattle.std.proofs.Common.{arith}
use Rattle.am_lemmas.proofs.Lists.{Some-slice_get_map}
use Rattle.am_office_entries.specs.declared.Event.{Event}
use Rattle.am_office_entries.specs.declared.Entry.{Entry}
use Rattle.am_scenario_types.specs.declared.parts.ScriptCall.{ScriptCall}
use Rattle.am_scenario_types.specs.declared.parts.ThreadLine.{ThreadLine}
use Rattle.am_scenario_types.specs.Lists.{ScenarioLists}
use Rattle.am_model_scripts.specs.Scripts.{call_made, calls_of, is_of_thread}
use Rattle.am_cluster_calls.specs.declared.threads.ThreadScript.{ThreadScript}
use Rattle.am_cluster_calls.specs.Threads.{AreSmall, Scripted, made_in, scripted_in, scripted_of, with_call_if}
use Rattle.am_cluster_calls.proofs.Calling.{scripted_push}

mapped_alike : {X Y : Type 0} (f g : X → Y) (xs : List X) → ((x : X) → f x ≡ g x) → map f xs ≡ map g xs
mapped_alike f g [] h = refl
mapped_alike f g (x ∷ xs) h = λ i. h x i ∷ mapped_alike f g xs h i

map_twice : {X Y Z : Type 0} (f : X → Y) (g : Y → Z) (xs : List X) → map g (map f xs) ≡ map (λ x. g (f x)) xs
map_twice f g [] = refl
map_twice f g (x ∷ xs) = ap (λ l. g (f x) ∷ l) (map_twice f g xs)

pub called_after : (s : ScenarioLists) (past : List Entry) (x : Entry) (event : Event) (old new : List Scripted) → x.event ≡ event →
    old ≡ map (scripted_of s past) s.threads → new ≡ map (with_call_if (call_made event)) old → new ≡ map (scripted_of s (past ++ x ∷ [])) s.threads
called_after s past x event old new at was is =
    is
    ∙ ap (λ (ts : List Scripted). map (with_call_if (call_made event)) ts) was
    ∙ map_twice (scripted_of s past) (with_call_if (call_made event)) s.threads
    ∙ mapped_alike (λ (t : ThreadLine). with_call_if (call_made event) (scripted_of s past t)) (scripted_of s (past ++ x ∷ [])) s.threads
    (λ t. sym (scripted_push s past x t ∙ ap (λ (e : Event). with_call_if (call_made e) (scripted_of s past t)) at))

few_kept : (p : ScriptCall → Bool) (o : Option ScriptCall) (cs : List ScriptCall) (n : ℕ) → length (filter p cs) ≤ n →
    length (filter p (cons_option o cs)) ≤ n + 1
few_kept p None cs n h = omega (arith, h)
few_kept p (Some c) cs n h = by_test (p c)
  where
    by_test : (b : Bool) → length (cond b (c ∷ filter p cs) (filter p cs)) ≤ n + 1
    by_test true = omega (arith, h)
    by_test false = omega (arith, h)

calls_few : (thread : ℕ) (past : List Entry) → length (calls_of thread past) ≤ length past
calls_few thread [] = omega arith
calls_few thread (x ∷ past) =
    let one = few_kept (is_of_thread thread) (call_made x.event) (filter_map (λ (y : Entry). call_made y.event) past) (length past) (calls_few thread past) in
    omega (arith, one)

pub made_small : (s : ScenarioLists) (past : List Entry) (all : List Scripted) → all ≡ map (scripted_of s past) s.threads → length past ≤ 272 * s.log →
    s.log ≤ 65536 → AreSmall all
made_small s past all is short low k t at =
    let found = Some-slice_get_map (scripted_of s past) s.threads k t (ap (λ (ts : List Scripted). slice_get ts k) (sym is) ∙ at) in
    let made : length (calls_of found.0.id past) ≡ t.made = ap (λ (x : Scripted). x.made) found.2 in
    let few = calls_few found.0.id past in
    omega (arith, made, few, short, low)

-- what the threads tell of their calls is what the journal says
pub made_told : (s : ScenarioLists) (past : List Entry) (ts : List ThreadScript) (ms : List ℕ) → map scripted_in ts ≡ map (scripted_of s past) s.threads →
    ms ≡ map made_in ts → ms ≡ map (λ (t : ThreadLine). length (calls_of t.id past)) s.threads
made_told s past ts ms is told =
    told
    ∙ sym (map_twice scripted_in (λ (t : Scripted). t.made) ts)
    ∙ ap (λ (l : List Scripted). map (λ (t : Scripted). t.made) l) is
    ∙ map_twice (scripted_of s past) (λ (t : Scripted). t.made) s.threads
