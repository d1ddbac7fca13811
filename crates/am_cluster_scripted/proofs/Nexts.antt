-- The next call of a thread, by its number.
use Rattle.std.specs.Prelude.{find, option_map, ◌==◌}
use Rattle.std.specs.List.{list_any}
use Rattle.std.proofs.Common.{◌≡◌, ℕ, Bool, true, false, cond, ◌||◌, List, [], ◌∷◌, map, Option, Some, refl, ap, ◌∙◌, eqb-true}
use Rattle.am_office_entries.specs.declared.Entry.{Entry}
use Rattle.am_scenario_types.specs.declared.parts.ThreadLine.{ThreadLine}
use Rattle.am_scenario_types.specs.Lists.{ScenarioLists}
use Rattle.am_model_scripts.specs.Follows.{is_thread}
use Rattle.am_model_scripts.specs.Scripts.{call_left}
use Rattle.am_cluster_calls.specs.declared.threads.ThreadScript.{ThreadScript}
use Rattle.am_cluster_calls.specs.Threads.{Scripted, call_in, call_of, next_in, scripted_in, scripted_of}

-- the threads with their scripts are those that are declared
next_among : (s : ScenarioLists) (past : List Entry) (thread : ℕ) (ts : List ThreadScript) (lines : List ThreadLine) →
    map scripted_in ts ≡ map (scripted_of s past) lines → list_any (λ (t : ThreadLine). t.id == thread) lines ≡ true →
    next_in thread ts ≡ call_left s past thread
next_among s past thread [] [] same h = absurd (cc)
next_among s past thread [] (l ∷ lines) same h = absurd (cc)
next_among s past thread (t ∷ ts) [] same h = absurd (cc)
next_among s past thread (t ∷ ts) (l ∷ lines) same h = by_test (l.id == thread) refl h (next_among s past thread ts lines rest)
  where
    first : scripted_in t ≡ scripted_of s past l
    first = cc

    rest : map scripted_in ts ≡ map (scripted_of s past) lines
    rest = cc

    here : Bool → Option ThreadScript
    here b = cond b (Some t) (find (λ (x : ThreadScript). x.id == thread) ts)

    at : (b : Bool) → (l.id == thread) ≡ b → (t.id == thread) ≡ b
    at b is = ap (λ (x : Scripted). x.id == thread) first ∙ is

    by_test : (b : Bool) → (l.id == thread) ≡ b → (b || list_any (λ (x : ThreadLine). x.id == thread) lines) ≡ true →
        (list_any (λ (x : ThreadLine). x.id == thread) lines ≡ true → next_in thread ts ≡ call_left s past thread) →
        next_in thread (t ∷ ts) ≡ call_left s past thread
    by_test true is k later = ap (λ (b : Bool). call_of (option_map (λ (x : ThreadScript). call_in (scripted_in x)) (here b))) (at true is) ∙ ap call_in first
        ∙ ap (call_left s past) (eqb-true l.id thread is)
    by_test false is k later = ap (λ (b : Bool). call_of (option_map (λ (x : ThreadScript). call_in (scripted_in x)) (here b))) (at false is) ∙ later k

-- the next call of a declared thread is the one that is left to it
pub next_left : (s : ScenarioLists) (past : List Entry) (thread : ℕ) (ts : List ThreadScript) → map scripted_in ts ≡ map (scripted_of s past) s.threads →
    is_thread s thread ≡ true → next_in thread ts ≡ call_left s past thread
next_left s past thread ts same known = next_among s past thread ts s.threads same known
