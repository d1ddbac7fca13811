-- What the commands `run` and `make` answer, and what their answers say of the cluster.
use Rattle.std.specs.Prelude.{◌≡◌, ◌≢◌, ◌⊎◌, ℕ, Some, List, [], ◌∷◌, ◌++◌, codes, length, Result, Ok, Err}
use Rattle.std.specs.Fmt.{decimal}
use Rattle.am_names.specs.declared.Message.{Message}
use Rattle.am_office_entries.specs.declared.Entry.{Entry}
use Rattle.am_office_entries.specs.declared.Part.{Part}
use Rattle.am_office_entries.specs.declared.endings.Fate.TheVariants as Fates
use Rattle.am_office_entries.specs.Fates.{fate}
use Rattle.am_office_report.specs.Report.{report, summary}
use Rattle.am_office_text.specs.Words.{line}
use Rattle.am_scenario_types.specs.declared.faults.ScenarioFault.{ScenarioFault}
use Rattle.am_scenario_types.specs.Lists.{ScenarioLists}
use Rattle.am_scenario_generator.specs.Scenarios.{generated}
use Rattle.am_model.specs.PostOffice.{WasAccepted}
use Rattle.am_model_drain.specs.Cut.{IsDrainedWithRoom}
use Rattle.am_model_drain.specs.Drain.{IsDrained}
use Rattle.am_model_drain.specs.Follows.{FollowsScripts}
use Rattle.am_cluster.specs.Runs.{IsAloneCutOff, IsRunCutOff, IsRunDone, ObeysRunLaws}
use Rattle.am_cluster.specs.declared.Finished.{Finished}
use Rattle.am_cluster.specs.declared.RunFault.{RunFault}
use Rattle.am_cluster.specs.declared.RunFault.TheVariants as Stops
use Rattle.am_main_lines.specs.Lines.{Answer, full_line, ids_of, refusal}

-- without threads a run is what the drain makes of the empty journal, which makes no other
pub record IsDrainedAlone (s : ScenarioLists) (journal : List Entry) : Type 0 where
  pub drained : IsDrainedWithRoom s [] journal
  pub only : (other : List Entry) → IsDrained s [] other → other ≡ journal

-- A journal is that of a run of a scenario: it obeys the laws of runs, which say that it is a history, that it obeys the post office
-- and what becomes of each message; it follows the scripts, and no message that was accepted is pending. And it is a phase, of what
-- the threads, interfaces and drivers made at the same time, and then what the drain makes of that phase, which is nothing else. Where
-- there are no turns the phase is empty, so there is no other run.
pub record IsRunOf (s : ScenarioLists) (journal : List Entry) : Type 0 where
  pub obeys : ObeysRunLaws s journal
  pub follows : FollowsScripts s journal
  pub settled : (m : Message) → WasAccepted journal m → fate journal m.serial ≢ Some Fates.Pending
  pub done : IsRunDone s journal
  pub only : (other : List Entry) → IsDrained s done.phase other → other ≡ journal
  pub alone : s.turns ≡ 0 → IsDrainedAlone s journal

-- THE HEADLINE, for the command `run`: the text is the report of the journal of a run of the scenario, with its threads.
pub record PrintsRun (s : ScenarioLists) (text : List ℕ) : Type 0 where
  pub journal : List Entry
  pub run : IsRunOf s journal
  pub text' : text ≡ report (ids_of s.ends) journal

-- the text is the line that tells a full log, and behind it the report of what the run made before the first entry that met it
pub record PrintsCutRun (s : ScenarioLists) (part : Part) (text : List ℕ) : Type 0 where
  pub journal : List Entry
  pub cut : IsRunCutOff s part journal
  pub text' : text ≡ full_line part ++ report (ids_of s.ends) journal

-- the answer of `run` to a scenario
abbrev pub IsRunAnswer : ScenarioLists → Answer → Type 0
IsRunAnswer s answer = ((answer.status ≡ 0) × PrintsRun s answer.text) ⊎ ((answer.status ≡ 6) × ((part : Part) × PrintsCutRun s part answer.text))

-- the answer tells how a run ended: the report of its journal; or the line of the full log that it met, and the report of what it made before
abbrev pub TellsEnd : ScenarioLists → Result Finished RunFault → Answer → Type 0
TellsEnd s (Ok finished) answer = answer ≡ record { status = 0; text = report (ids_of s.ends) finished.journal }
TellsEnd s (Err (Stops.LogFull part journal)) answer = answer ≡ record { status = 6; text = full_line part ++ report (ids_of s.ends) journal }
TellsEnd s (Err Stops.NoMemory) answer = ⊥

-- the answer of `run` to what a text spells, or to its first fault
abbrev pub RunAnswers : Result ScenarioLists ScenarioFault → Answer → Type 0
RunAnswers (Ok s) answer = IsRunAnswer s answer
RunAnswers (Err fault) answer = answer ≡ refusal fault

-- the summary of `make`: the number, how many calls the scripts have, and two lines of the report
unfoldable pub make_text : ℕ → ℕ → List Entry → List ℕ
make_text n calls journal =
    line (codes "am2") (codes "make" ∷ decimal n ∷ []) ++ line (codes "calls") (decimal calls ∷ []) ++ summary journal

-- THE HEADLINE, for the command `make`: the text is the summary of the run without threads of the scenario that is generated from the
-- number, whose scripts have 1744 calls.
pub record Summarizes (n : ℕ) (text : List ℕ) : Type 0 where
  pub journal : List Entry
  pub run : IsRunOf (generated n) journal
  pub alone : IsDrainedAlone (generated n) journal
  pub calls : length (generated n).script ≡ 1744
  pub text' : text ≡ make_text n 1744 journal

-- the text is the line that tells a full log, which that run met
pub record TellsCutRun (n : ℕ) (part : Part) (text : List ℕ) : Type 0 where
  pub journal : List Entry
  pub cut : IsAloneCutOff (generated n) part journal
  pub text' : text ≡ full_line part

-- the answer of `make` to a number
abbrev pub MakeAnswers : ℕ → Answer → Type 0
MakeAnswers n answer = ((answer.status ≡ 0) × Summarizes n answer.text) ⊎ ((answer.status ≡ 6) × ((part : Part) × TellsCutRun n part answer.text))

-- a text spells no scenario, or one without turns
abbrev pub HasNoTurns : Result ScenarioLists ScenarioFault → Type 0
HasNoTurns (Ok s) = s.turns ≡ 0
HasNoTurns (Err fault) = Unit {0}

-- `run` has at most one answer to what a text without turns spells, and `make` to a number
pub record HaveOneAnswer : Type 0 where
  pub run : (read : Result ScenarioLists ScenarioFault) (one other : Answer) → HasNoTurns read → RunAnswers read one → RunAnswers read other → one ≡ other
  pub make : (n : ℕ) (one other : Answer) → MakeAnswers n one → MakeAnswers n other → one ≡ other
