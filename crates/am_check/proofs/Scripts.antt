-- The calls of a run that has begun begin the scripts.
use Rattle.std.specs.Prelude.{◌==◌, filter, filter_map}
use Rattle.std.specs.List.{AllByRecursion, cons_option}
use Rattle.std.proofs.Common.{◌≡◌, ℕ, Bool, true, false, cond, List, [], ◌∷◌, ◌++◌, Option, Some, None, refl, sym, ap, ◌∙◌, subst, append-nil, eqb-true}
use Rattle.std.proofs.lemmas.List.Elements.{filter-append, filter_map-append}
use Rattle.am_office_entries.specs.declared.Entry.{Entry}
use Rattle.am_model.proofs.Each.{over_each}
use Rattle.am_scenario_types.specs.declared.parts.Form.TheVariants.{Run}
use Rattle.am_scenario_types.specs.declared.parts.ThreadLine.{ThreadLine}
use Rattle.am_scenario_types.specs.declared.parts.ScriptCall.{ScriptCall}
use Rattle.am_scenario_types.specs.Lists.{ScenarioLists}
use Rattle.am_model_scripts.specs.Scripts.{BeginsScripts, call_left, call_made, calls_of, is_of_thread, script_of}
use Rattle.am_model_scripts.proofs.Lists.{Begins, begins_next}
use Rattle.am_check.specs.Follows.{Comes, IsBegun, IsNextCall}

calls_push : (thread : ℕ) (past : List Entry) (x : Entry) → calls_of thread (past ++ x ∷ []) ≡ calls_of thread past ++ filter (is_of_thread thread)
    (cons_option (call_made x.event) [])
calls_push thread past x =
    ap (filter (is_of_thread thread)) (filter_map-append (λ (y : Entry). call_made y.event) past (x ∷ []))
    ∙ filter-append (is_of_thread thread) (filter_map (λ (y : Entry). call_made y.event) past) (cons_option (call_made x.event) [])

-- one thread has begun its script, and made one call more if it is its
one_more : (s : ScenarioLists) (past : List Entry) (o : Option ScriptCall) (thread : ℕ) → IsNextCall s past o →
    Begins (calls_of thread past) (script_of s thread) → Begins (calls_of thread past ++ filter (is_of_thread thread) (cons_option o [])) (script_of s thread)
one_more s past None thread next h = subst (λ (cs : List ScriptCall). Begins cs (script_of s thread)) (sym (append-nil (calls_of thread past))) h
one_more s past (Some c) thread next h = by_test (thread == c.thread) refl
  where
    by_test : (b : Bool) → (thread == c.thread) ≡ b → Begins (calls_of thread past ++ cond b (c ∷ []) []) (script_of s thread)
    by_test true is =
        let here : call_left s past thread ≡ Some c = ap (call_left s past) (eqb-true thread c.thread is) ∙ next in
        subst (λ (ns : List ScriptCall). Begins (calls_of thread past ++ c ∷ []) ns) (append-nil (script_of s thread))
        (begins_next (calls_of thread past) (script_of s thread) [] c h here)
    by_test false is = subst (λ (cs : List ScriptCall). Begins cs (script_of s thread)) (sym (append-nil (calls_of thread past))) h

each_more : (s : ScenarioLists) (past : List Entry) (x : Entry) (ts : List ThreadLine) → IsNextCall s past (call_made x.event) →
    AllByRecursion (λ (t : ThreadLine). Begins (calls_of t.id past) (script_of s t.id)) ts →
    AllByRecursion (λ (t : ThreadLine). Begins (calls_of t.id (past ++ x ∷ [])) (script_of s t.id)) ts
each_more s past x [] next h = tt
each_more s past x (t ∷ ts) next h = (
  subst (λ (cs : List ScriptCall). Begins cs (script_of s t.id)) (sym (calls_push t.id past x)) (one_more s past (call_made x.event) t.id next h.0),
  each_more s past x ts next h.1,
)

none_yet : (s : ScenarioLists) (ts : List ThreadLine) → AllByRecursion (λ (t : ThreadLine). Begins (calls_of t.id []) (script_of s t.id)) ts
none_yet s [] = tt
none_yet s (t ∷ ts) = (refl, none_yet s ts)

pub begins_scripts : (s : ScenarioLists) (journal : List Entry) → IsBegun Run s journal → BeginsScripts s journal
begins_scripts s journal begun =
    over_each (Comes Run s) (BeginsScripts s) (λ past x h comes. each_more s past x s.threads comes.may.next_call h) [] journal (none_yet s s.threads) begun
