-- The threads with their scripts, and how many calls of them were made.
use Rattle.std.specs.Prelude.{◌≡◌, ℕ, ◌+◌, ◌<◌, ◌^◌, ◌==◌, nat_lt, Option, Some, None, List, [], ◌∷◌, ◌++◌, filter, find, length, option_map, slice_get}
use Rattle.std.specs.Prelude.{slice_set, slice_index_or, if◌then◌else◌}
use Rattle.am_office_entries.specs.declared.Entry.{Entry}
use Rattle.am_scenario_types.specs.declared.parts.ScriptCall.{ScriptCall}
use Rattle.am_scenario_types.specs.declared.parts.ThreadLine.{ThreadLine}
use Rattle.am_scenario_types.specs.Lists.{ScenarioLists}
use Rattle.am_model_scripts.specs.Scripts.{calls_of, is_of_thread, script_of}
use Rattle.am_model_drain.specs.Rules.{Left, left_after}
use Rattle.am_cluster_calls.specs.declared.threads.ThreadScript.{ThreadScript}

-- a thread, the calls that it is to make, and how many of them it made
pub record Scripted : Type 0 where
  pub id : ℕ
  pub calls : List ScriptCall
  pub made : ℕ

abbrev pub scripted_in : ThreadScript → Scripted
scripted_in t = record { id = t.id; calls = t.calls.items; made = t.made }

-- how many it made
abbrev pub made_in : ThreadScript → ℕ
made_in t = t.made

-- a declared thread after these entries
abbrev pub scripted_of : ScenarioLists → List Entry → ThreadLine → Scripted
scripted_of s past t = record { id = t.id; calls = script_of s t.id; made = length (calls_of t.id past) }

-- a declared thread with its calls of these, before it made one
abbrev pub begun_by : List ScriptCall → ThreadLine → Scripted
begun_by script t = record { id = t.id; calls = filter (is_of_thread t.id) script; made = 0 }

-- the call that comes next in its script
abbrev pub call_in : Scripted → Option ScriptCall
call_in t = slice_get t.calls t.made

-- the call that is left to it
abbrev pub left_in : Scripted → Option Left
left_in t = left_after t.made (call_in t)

-- what comes next in the script of the thread with this number, if there is such a thread
abbrev pub found_in : ℕ → List ThreadScript → Option (Option ScriptCall)
found_in thread ts = option_map (λ (t : ThreadScript). call_in (scripted_in t)) (find (λ (t : ThreadScript). t.id == thread) ts)

abbrev pub call_of : Option (Option ScriptCall) → Option ScriptCall
call_of None = None
call_of (Some call) = call

-- the next call of that thread
abbrev pub next_in : ℕ → List ThreadScript → Option ScriptCall
next_in thread ts = call_of (found_in thread ts)

-- one call more of a thread
abbrev pub with_call : ScriptCall → Scripted → Scripted
with_call c t = record { id = t.id; calls = t.calls; made = if is_of_thread t.id c then t.made + 1 else t.made }

abbrev pub with_call_if : Option ScriptCall → Scripted → Scripted
with_call_if None t = t
with_call_if (Some c) t = with_call c t

-- one call more in the script of a thread, where it is of this thread
abbrev pub with_line : ScriptCall → Scripted → Scripted
with_line c t = record { id = t.id; calls = if is_of_thread t.id c then t.calls ++ c ∷ [] else t.calls; made = t.made }

-- no thread
abbrev pub no_thread : Scripted
no_thread = record { id = 0; calls = []; made = 0 }

-- one call more of the thread at a place
abbrev pub with_call_at : ℕ → ScriptCall → List Scripted → List Scripted
with_call_at k c ts = slice_set ts k (with_call c (slice_index_or ts k no_thread))

-- one call more in the script of the thread at a place
abbrev pub with_line_at : ℕ → ScriptCall → List Scripted → List Scripted
with_line_at k c ts = slice_set ts k (with_line c (slice_index_or ts k no_thread))

-- the thread at a place, and each, can count one call more
abbrev pub IsSmallAt : List Scripted → ℕ → Type 0
IsSmallAt ts k = (t : Scripted) → slice_get ts k ≡ Some t → t.made + 1 < 2 ^ 32

abbrev pub AreSmall : List Scripted → Type 0
AreSmall ts = (k : ℕ) → IsSmallAt ts k

-- no two threads have one number
abbrev pub AreDistinct : List Scripted → Type 0
AreDistinct ts = (j k : ℕ) (t u : Scripted) → slice_get ts j ≡ Some t → slice_get ts k ≡ Some u → t.id ≡ u.id → j ≡ k

-- the place of the thread with this number, and none exactly where none has it
abbrev pub HasThread : List ThreadScript → ℕ → Option ℕ → Type 0
HasThread ts id None = (k : ℕ) (t : ThreadScript) → slice_get ts k ≡ Some t → t.id ≡ id → ⊥
HasThread ts id (Some place) = (t : ThreadScript) × (slice_get ts place ≡ Some t) × (t.id ≡ id)

-- what is left to the one that made fewer calls, or to the first
abbrev pub fewer_of : Option Left → Option Left → Option Left
fewer_of best None = best
fewer_of None (Some l) = Some l
fewer_of (Some first) (Some l) = Some (if nat_lt l.after first.after then l else first)
