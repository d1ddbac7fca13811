-- The words that scripts send, and those that journals run.
use Rattle.std.specs.Prelude.{ℕ, List, filter_map, fold}
use Rattle.std.specs.List.{flat_map}
use Rattle.am_office_entries.specs.declared.Entry.{Entry}
use Rattle.am_scenario_types.specs.declared.parts.ScriptCall.{ScriptCall}
use Rattle.am_scenario_types.specs.Lists.{ScenarioLists}
use Rattle.am_job.specs.Words.Counts.{Counted, ask, word_asked, words_run}
use Rattle.am_job.specs.Lists.{JobLists}

-- the words that a script sends, in order
abbrev pub words_asked : List ScriptCall → List (List ℕ)
words_asked script = filter_map (λ (made : ScriptCall). word_asked made.call) script

-- the words that rounds send, in order
abbrev pub asked_in_all : List ScenarioLists → List (List ℕ)
asked_in_all rounds = flat_map (λ (round : ScenarioLists). words_asked round.script) rounds

-- the words that a job sends, in order
abbrev pub asked_by : JobLists → List (List ℕ)
asked_by job = asked_in_all job.rounds

-- the words that journals run, in order
abbrev pub run_in_all : List (List Entry) → List (List ℕ)
run_in_all journals = flat_map words_run journals

-- the counts after the words of a script were sent
abbrev pub ask_script : Counted → List ScriptCall → Counted
ask_script counted script = fold (λ (so_far : Counted) (made : ScriptCall). ask so_far (word_asked made.call)) counted script
