-- The scenario that a seed is tried with.
use Rattle.std.specs.Prelude.{◌≡◌, ℕ, Option, Some, None, Result, Ok, Err}
use Rattle.am_lab_scenarios.specs.Faults.Plans.{with_drawn_plan}
use Rattle.am_lab_schedules.specs.SeedRuns.{IsSeedAnswer}
use Rattle.am_main_lines.specs.Lines.{Answer, refusal}
use Rattle.am_scenario_types.specs.Lawful.{IsLawful, IsOfForm}
use Rattle.am_scenario_types.specs.Lists.{ScenarioLists}
use Rattle.am_scenario_types.specs.declared.faults.ScenarioFault.{ScenarioFault}
use Rattle.am_scenario_types.specs.declared.parts.Form.TheVariants.{Run}

-- the scenario as it is; or, where so many in a hundred are given, with the plan that the seed draws in place of its own
abbrev pub tried : (faults : Option ℕ) (seed : ℕ) → ScenarioLists → ScenarioLists
tried None seed s = s
tried (Some percent) seed s = with_drawn_plan seed percent s

-- the second scenario may be tried in place of the first: it is lawful too, and each seed is tried with the same
pub record StandsFor (faults : Option ℕ) (s other : ScenarioLists) : Type 0 where
  pub alike : (seed : ℕ) → tried faults seed s ≡ tried faults seed other
  pub lawful : IsLawful other
  pub of_form : IsOfForm Run other

-- THE HEADLINE, for `schedule SEED`: the answer tells a run by this seed of the scenario that a text spells, with the plan that is drawn, and is
-- one that `run` may give to it; or the text's first fault
abbrev pub ScheduleAnswers : (faults : Option ℕ) (seed : ℕ) → Result ScenarioLists ScenarioFault → Answer → Type 0
ScheduleAnswers faults seed (Ok s) answer = IsSeedAnswer (tried faults seed s) seed answer
ScheduleAnswers faults seed (Err fault) answer = answer ≡ refusal fault
