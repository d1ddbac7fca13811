-- What `find` answers: the report of the least seed whose report has a line that begins with some words, or has none.
use Rattle.std.specs.Prelude.{◌≡◌, ◌⊎◌, ℕ, ◌<◌, ◌≤◌, Bool, true, false, not, List, [], ◌∷◌, ◌++◌, codes, Option, Some, None, Result, Ok, Err}
use Rattle.std.specs.Fmt.{decimal}
use Rattle.am_lab_schedules.specs.Beginnings.{has_line_with}
use Rattle.am_lab_scenarios.specs.Spelling.Texts.{scenario_text}
use Rattle.am_lab_schedules.specs.SeedRuns.{IsSeedAnswer}
use Rattle.am_lab_schedules.specs.Trials.{tried}
use Rattle.am_lab_schedules.specs.declared.finds.Wanted.{Wanted}
use Rattle.am_lab_schedules.specs.declared.finds.Wanted.TheVariants.{WithLine, WithoutLine}
use Rattle.am_main_lines.specs.Lines.{Answer, refusal}
use Rattle.am_office_text.specs.Words.{line}
use Rattle.am_scenario.specs.Laws.{Spells}
use Rattle.am_scenario_types.specs.Lists.{ScenarioLists}
use Rattle.am_scenario_types.specs.declared.parts.Form.TheVariants.{Run}
use Rattle.am_scenario_types.specs.declared.faults.ScenarioFault.{ScenarioFault}

-- whether a report is looked for
abbrev pub is_wanted : Wanted → (given text : List ℕ) → Bool
is_wanted WithLine given text = has_line_with given text
is_wanted WithoutLine given text = not (has_line_with given text)

-- what stands in front of a report: the scenario, where its plan was drawn, and else nothing
abbrev pub scenario_before : (faults : Option ℕ) → ScenarioLists → List ℕ
scenario_before None s = []
scenario_before (Some percent) s = scenario_text s

-- `seed N`, and behind it what is answered of its run, whose status is kept
abbrev pub found_seed : (seed : ℕ) → (scenario : List ℕ) → (of_run : Answer) → Answer
found_seed seed scenario of_run = record { status = of_run.status; text = line (codes "seed") (decimal seed ∷ []) ++ scenario ++ of_run.text }

-- the scenario in front of a report is read there again
abbrev pub IsReadBefore : (faults : Option ℕ) → ScenarioLists → Type 0
IsReadBefore None s = Unit {0}
IsReadBefore (Some percent) s = Spells Run (scenario_before (Some percent) s) s

-- `A..B`
unfoldable pub range_text : (from to : ℕ) → List ℕ
range_text from to = decimal from ++ codes ".." ++ decimal to

-- `no such seed in A..B`
unfoldable pub no_such_line : (from to : ℕ) → List ℕ
no_such_line from to = codes "no such seed in " ++ range_text from to ++ codes "\n"

abbrev pub no_such_seed : (from to : ℕ) → Answer
no_such_seed from to = record { status = 12; text = no_such_line from to }

-- the answer tells a run of the scenario by this seed, and the report is looked for or isn't
pub record IsRunThat (s : ScenarioLists) (seed : ℕ) (wanted : Wanted) (given : List ℕ) (so : Bool) (of_run : Answer) : Type 0 where
  pub run : IsSeedAnswer s seed of_run
  pub so' : is_wanted wanted given of_run.text ≡ so

-- there is a run by this seed of the scenario that it is tried with, and its report isn't looked for
abbrev pub IsPassed : (faults : Option ℕ) → ScenarioLists → Wanted → (given : List ℕ) → (seed : ℕ) → Type 0
IsPassed faults s wanted given seed = (of_run : Answer) × IsRunThat (tried faults seed s) seed wanted given false of_run

-- there is one for each seed from one up to another, which isn't among them
abbrev pub NoneIsWanted : (faults : Option ℕ) → ScenarioLists → Wanted → (given : List ℕ) → (from to : ℕ) → Type 0
NoneIsWanted faults s wanted given from to = (seed : ℕ) → from ≤ seed → seed < to → IsPassed faults s wanted given seed

-- the report of this seed's run is looked for, and none before it
pub record FindsSeed (faults : Option ℕ) (s : ScenarioLists) (wanted : Wanted) (given : List ℕ) (from to : ℕ) (answer : Answer) : Type 0 where
  pub seed : ℕ
  pub low : from ≤ seed
  pub high : seed < to
  pub before : NoneIsWanted faults s wanted given from seed
  pub of_run : Answer
  pub found : IsRunThat (tried faults seed s) seed wanted given true of_run
  pub answer' : answer ≡ found_seed seed (scenario_before faults (tried faults seed s)) of_run
  pub read : IsReadBefore faults (tried faults seed s)

-- no report of the range is looked for
pub record FindsNone (faults : Option ℕ) (s : ScenarioLists) (wanted : Wanted) (given : List ℕ) (from to : ℕ) (answer : Answer) : Type 0 where
  pub none : NoneIsWanted faults s wanted given from to
  pub answer' : answer ≡ no_such_seed from to

-- THE HEADLINE, for `find`: the answer to what a text spells, or to its first fault
abbrev pub FindAnswers : (faults : Option ℕ) → Result ScenarioLists ScenarioFault → Wanted → (given : List ℕ) → (from to : ℕ) → Answer → Type 0
FindAnswers faults (Ok s) wanted given from to answer = FindsSeed faults s wanted given from to answer ⊎ FindsNone faults s wanted given from to answer
FindAnswers faults (Err fault) wanted given from to answer = answer ≡ refusal fault
