-- The lines of the threads in the text of a state.
use Rattle.std.specs.Prelude.{ℕ, Option, Some, None, List, [], ◌∷◌, ◌++◌, codes}
use Rattle.std.specs.Fmt.{decimal}
use Rattle.std.specs.List.{flat_map}
use Rattle.am_cluster_drainer.specs.Reads.{call_event}
use Rattle.am_model_scripts.specs.Scripts.{call_left}
use Rattle.am_office_entries.specs.declared.Entry.{Entry}
use Rattle.am_office_text.specs.Words.{line, spaced}
use Rattle.am_scenario_types.specs.Lists.{ScenarioLists}
use Rattle.am_scenario_types.specs.declared.parts.ScriptCall.{ScriptCall}
use Rattle.am_scenario_types.specs.declared.parts.ThreadLine.{ThreadLine}
use Rattle.am_lab_reasons.specs.Due.Texts.{event_line}

-- what a thread calls next, or that it has no call left
abbrev pub thread_by : ℕ → Option ScriptCall → List ℕ
thread_by thread None = line (codes "thread") (decimal thread ∷ codes "done" ∷ [])
thread_by thread (Some call) = codes "thread" ++ spaced (decimal thread ∷ codes "next" ∷ []) ++ codes " " ++ event_line (call_event call)

abbrev pub thread_line : ScenarioLists → List Entry → ThreadLine → List ℕ
thread_line s past thread = thread_by thread.id (call_left s past thread.id)

-- the threads, by number
abbrev pub all_threads : ScenarioLists → List Entry → List ℕ
all_threads s past = flat_map (thread_line s past) s.threads
