-- Scenarios that may be tried in each other's place.
use Rattle.std.proofs.Common.{◌≡◌, ℕ, Option, Some, None, refl, sym, subst, ◌∙◌}
use Rattle.am_lab_schedules.specs.Schedules.{IsMade}
use Rattle.am_lab_schedules.specs.SeedRuns.{IsSeedRun}
use Rattle.am_lab_schedules.specs.Trials.{StandsFor, tried}
use Rattle.am_lab_schedules.specs.declared.outcomes.runs.SeedRun.{SeedRun}
use Rattle.am_scenario_types.specs.Lawful.{IsLawful, IsOfForm}
use Rattle.am_scenario_types.specs.declared.parts.Form.TheVariants.{Run}
use Rattle.am_scenario_types.specs.Lists.{ScenarioLists}

-- a plan that is drawn again replaces the one that was drawn before
drawn_again : (faults : Option ℕ) (seed : ℕ) (s : ScenarioLists) (n : ℕ) → tried faults n s ≡ tried faults n (tried faults seed s)
drawn_again None seed s n = refl
drawn_again (Some percent) seed s n = refl

-- the scenario that a seed is tried with stands for the one that it was made of
pub tried_stands : (faults : Option ℕ) (seed : ℕ) (s other : ScenarioLists) → other ≡ tried faults seed s → IsLawful other → IsOfForm Run other →
    StandsFor faults s other
tried_stands faults seed s other is lawful of_form = record {
  alike = subst (λ (t : ScenarioLists). (n : ℕ) → tried faults n s ≡ tried faults n t) (sym is) (drawn_again faults seed s);
  lawful = lawful;
  of_form = of_form;
}

-- a scenario stands for itself, and what stands for one that stands for it stands for it too
pub stands_itself : (faults : Option ℕ) (s : ScenarioLists) → IsLawful s → IsOfForm Run s → StandsFor faults s s
stands_itself faults s lawful of_form = record { alike = λ (n : ℕ). refl; lawful = lawful; of_form = of_form }

pub stands_further : (faults : Option ℕ) (s other further : ScenarioLists) → StandsFor faults s other → StandsFor faults other further →
    StandsFor faults s further
stands_further faults s other further one next = record {
  alike = λ (n : ℕ). one.alike n ∙ next.alike n;
  lawful = next.lawful;
  of_form = next.of_form;
}

-- a run by its seed of the scenario that this seed is tried with
pub is_made : (faults : Option ℕ) (seed : ℕ) (s other : ScenarioLists) (run : SeedRun) → other ≡ tried faults seed s → run.seed ≡ seed →
    IsSeedRun other seed run.full run.journal → IsMade faults s run
is_made faults seed s other run is same made =
    subst (λ (n : ℕ). IsSeedRun (tried faults n s) n run.full run.journal) (sym same)
    (subst (λ (t : ScenarioLists). IsSeedRun t seed run.full run.journal) is made)

-- and of one that it stands for
pub made_alike : (faults : Option ℕ) (s other : ScenarioLists) (run : SeedRun) → StandsFor faults s other → IsMade faults other run → IsMade faults s run
made_alike faults s other run stands made =
    subst (λ (t : ScenarioLists). IsSeedRun t run.seed run.full run.journal) (sym (stands.alike run.seed)) made
