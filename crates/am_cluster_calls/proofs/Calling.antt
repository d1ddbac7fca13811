-- The threads after one entry more.
use Rattle.std.proofs.Common.{◌≡◌, ℕ, ◌+◌, Bool, true, false, cond, List, [], ◌∷◌, ◌++◌, length, Option, Some, None, ◌∙◌, arith}
use Rattle.std.specs.List.{filter, filter_map, cons_option}
use Rattle.am_office_entries.specs.declared.Entry.{Entry}
use Rattle.am_scenario_types.specs.declared.parts.ScriptCall.{ScriptCall}
use Rattle.am_scenario_types.specs.declared.parts.ThreadLine.{ThreadLine}
use Rattle.am_scenario_types.specs.Lists.{ScenarioLists}
use Rattle.am_model_scripts.specs.Scripts.{call_made, calls_of, is_of_thread, script_of}
use Rattle.am_cluster_calls.specs.Threads.{scripted_of, with_call_if}

-- how many calls of a thread one call is
abbrev one_of : ℕ → Option ScriptCall → ℕ
one_of thread None = 0
one_of thread (Some c) = cond (is_of_thread thread c) 1 0

counted : (thread : ℕ) (o : Option ScriptCall) (cs : List ScriptCall) →
    length (filter (is_of_thread thread) (cons_option o cs)) ≡ one_of thread o + length (filter (is_of_thread thread) cs)
counted thread None cs = omega arith
counted thread (Some c) cs = by_test (is_of_thread thread c)
  where
    by_test : (b : Bool) → length (cond b (c ∷ filter (is_of_thread thread) cs) (filter (is_of_thread thread) cs)) ≡ cond b 1 0 + length
        (filter (is_of_thread thread) cs)
    by_test true = omega arith
    by_test false = omega arith

calls_push : (thread : ℕ) (past : List Entry) (x : Entry) → length (calls_of thread (past ++ x ∷ [])) ≡ length (calls_of thread past) + one_of thread
    (call_made x.event)
calls_push thread [] x = counted thread (call_made x.event) [] ∙ omega arith
calls_push thread (y ∷ past) x =
    let more = counted thread (call_made y.event) (filter_map (λ (z : Entry). call_made z.event) (past ++ x ∷ [])) in
    let before = counted thread (call_made y.event) (filter_map (λ (z : Entry). call_made z.event) past) in
    let later = calls_push thread past x in
    omega (arith, more, before, later)

pub scripted_push : (s : ScenarioLists) (past : List Entry) (x : Entry) (t : ThreadLine) →
    scripted_of s (past ++ x ∷ []) t ≡ with_call_if (call_made x.event) (scripted_of s past t)
scripted_push s past x t = by_call (call_made x.event) (calls_push t.id past x)
  where
    by_call : (o : Option ScriptCall) → length (calls_of t.id (past ++ x ∷ [])) ≡ length (calls_of t.id past) + one_of t.id o →
        scripted_of s (past ++ x ∷ []) t ≡ with_call_if o (scripted_of s past t)
    by_call None is = λ i. record { id = t.id; calls = script_of s t.id; made = same i }
      where
        same : length (calls_of t.id (past ++ x ∷ [])) ≡ length (calls_of t.id past)
        same = omega (arith, is)
    by_call (Some c) is = by_test (is_of_thread t.id c) is
      where
        by_test : (b : Bool) → length (calls_of t.id (past ++ x ∷ [])) ≡ length (calls_of t.id past) + cond b 1 0 →
            scripted_of s (past ++ x ∷ []) t ≡ record {
              id = t.id;
              calls = script_of s t.id;
              made = cond b (length (calls_of t.id past) + 1) (length (calls_of t.id past));
            }
        by_test true h = λ i. record { id = t.id; calls = script_of s t.id; made = h i }
        by_test false h = λ i. record { id = t.id; calls = script_of s t.id; made = zero_more i }
          where
            zero_more : length (calls_of t.id (past ++ x ∷ [])) ≡ length (calls_of t.id past)
            zero_more = omega (arith, h)
