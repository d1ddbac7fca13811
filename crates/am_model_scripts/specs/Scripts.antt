-- The calls of the threads, and what is left of their scripts.
use Rattle.std.specs.Prelude.{◌≡◌, ℕ, Bool, ◌==◌, Option, Some, None, List, take, length, filter, filter_map, slice_get}
use Rattle.std.specs.List.{AllByRecursion}
use Rattle.am_office_entries.specs.declared.Actor.TheVariants.{Thread}
use Rattle.am_office_entries.specs.declared.Event.{Event}
use Rattle.am_office_entries.specs.declared.Event.TheVariants as Events
use Rattle.am_office_entries.specs.declared.Entry.{Entry}
use Rattle.am_scenario_types.specs.declared.parts.ThreadLine.{ThreadLine}
use Rattle.am_scenario_types.specs.declared.parts.ScriptCall.{ScriptCall}
use Rattle.am_scenario_types.specs.Lists.{ScenarioLists}

-- the call that a thread makes here
abbrev pub call_made : Event → Option ScriptCall
call_made (Events.Call (Thread thread) end call) = Some (record { thread = thread; endpoint = end; call = call })
call_made event = None

abbrev pub is_of_thread : ℕ → ScriptCall → Bool
is_of_thread thread c = thread == c.thread

-- the calls that a thread made
abbrev pub calls_of : ℕ → List Entry → List ScriptCall
calls_of thread past = filter (is_of_thread thread) (filter_map (λ (x : Entry). call_made x.event) past)

-- the calls that a thread is to make
abbrev pub script_of : ScenarioLists → ℕ → List ScriptCall
script_of scenario thread = filter (is_of_thread thread) scenario.script

-- the next call of a thread, if one is left
abbrev pub call_left : ScenarioLists → List Entry → ℕ → Option ScriptCall
call_left scenario past thread = slice_get (script_of scenario thread) (length (calls_of thread past))

-- script order: the calls of each thread are its script, in order, each once
abbrev pub KeepsScripts : ScenarioLists → List Entry → Type 0
KeepsScripts scenario journal = AllByRecursion (λ (t : ThreadLine). calls_of t.id journal ≡ script_of scenario t.id) scenario.threads

-- the calls of each thread are the first ones of its script
abbrev pub BeginsScripts : ScenarioLists → List Entry → Type 0
BeginsScripts scenario journal =
    AllByRecursion (λ (t : ThreadLine). calls_of t.id journal ≡ take (length (calls_of t.id journal)) (script_of scenario t.id)) scenario.threads

-- where no thread has a call left, the scripts are done
abbrev pub ScriptsAreDone : Type 0
ScriptsAreDone =
    (scenario : ScenarioLists) (journal : List Entry) → BeginsScripts scenario journal → AllByRecursion (λ (t : ThreadLine). call_left scenario journal t.id ≡ None) scenario.threads → KeepsScripts scenario journal
