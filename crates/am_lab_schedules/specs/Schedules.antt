-- What is answered of the runs of many seeds.
use Rattle.std.specs.Prelude.{◌≡◌, ℕ, ◌-◌, Option, List, map, Result, Ok, Err, All}
use Rattle.std.specs.List.{range_with_len}
use Rattle.am_lab_schedules.specs.Outcomes.Outcomes.{outcomes}
use Rattle.am_lab_schedules.specs.SeedRuns.{IsSeedRun}
use Rattle.am_lab_schedules.specs.Trials.{tried}
use Rattle.am_lab_schedules.specs.declared.outcomes.runs.SeedRun.{SeedRun}
use Rattle.am_main_lines.specs.Lines.{Answer, refusal}
use Rattle.am_scenario_types.specs.declared.faults.ScenarioFault.{ScenarioFault}
use Rattle.am_scenario_types.specs.Lists.{ScenarioLists}

-- a run by its seed of the scenario that this seed is tried with
abbrev pub IsMade : (faults : Option ℕ) → ScenarioLists → SeedRun → Type 0
IsMade faults s run = IsSeedRun (tried faults run.seed s) run.seed run.full run.journal

abbrev pub seeds_of : List SeedRun → List ℕ
seeds_of runs = map (λ (run : SeedRun). run.seed) runs

-- for each seed from one up to another, which isn't among them, one run of the scenario by that seed
pub record AreRunsOf (faults : Option ℕ) (s : ScenarioLists) (from to : ℕ) (runs : List SeedRun) : Type 0 where
  pub seeds : seeds_of runs ≡ range_with_len from (to - from)
  pub made : All (IsMade faults s) runs

-- THE HEADLINE, for `schedule SEED..SEED2`: what is answered is told of one run by each seed
pub record TellsRuns (faults : Option ℕ) (s : ScenarioLists) (from to : ℕ) (answer : Answer) : Type 0 where
  pub runs : List SeedRun
  pub are : AreRunsOf faults s from to runs
  pub answer' : answer ≡ outcomes runs

-- the answer to what a text spells, or to its first fault
abbrev pub SchedulesAnswers : (faults : Option ℕ) → Result ScenarioLists ScenarioFault → (from to : ℕ) → Answer → Type 0
SchedulesAnswers faults (Ok s) from to answer = TellsRuns faults s from to answer
SchedulesAnswers faults (Err fault) from to answer = answer ≡ refusal fault
