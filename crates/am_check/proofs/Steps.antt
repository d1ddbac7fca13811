-- The events of the steps, by their places.
use Rattle.std.proofs.Common.{◌≡◌, ◌<◌, ℕ, zero, suc, true, List, [], ◌∷◌, Some, length, sym, subst, arith}
use Rattle.std.specs.Prelude.{option_map, slice_get}
use Rattle.std.proofs.lemmas.Option.{slice_get-map}
use Rattle.am_office_entries.specs.declared.Event.{Event}
use Rattle.am_scenario_types.specs.declared.parts.StepLine.{StepLine}
use Rattle.am_scenario_types.specs.Lists.{ScenarioLists}
use Rattle.am_scenario_types.specs.Lawful.{IsLawful}
use Rattle.am_model_scripts.specs.Layout.{events_of, layout_of}
use Rattle.am_model_scripts.proofs.Lawful.{steps_in_range}
use Rattle.am_model.specs.History.{is_in_range}
use Rattle.am_model.specs.Layout.{Layout}
use Rattle.am_model.proofs.Alls.{all_at}

pub step_at : (steps : List StepLine) (k : ℕ) → slice_get (events_of steps) k ≡ option_map (λ (step : StepLine). step.event) (slice_get steps k)
step_at steps k = slice_get-map (λ (step : StepLine). step.event) steps k

-- the event of a step is in range, in the layout of its scenario
pub in_range_at : (s : ScenarioLists) (layout : Layout) (k : ℕ) (event : Event) → IsLawful s → layout ≡ layout_of s →
    slice_get (events_of s.steps) k ≡ Some event → is_in_range layout event ≡ true
in_range_at s layout k event lawful same at =
    let there : is_in_range (layout_of s) event ≡ true = all_at (λ (e : Event). is_in_range (layout_of s) e ≡ true) (events_of s.steps) k event
    (steps_in_range s lawful) at in
    subst (λ (l : Layout). is_in_range l event ≡ true) (sym same) there

-- a step is one of them
pub step_below : (steps : List StepLine) (k : ℕ) (event : Event) → slice_get (events_of steps) k ≡ Some event → k < length steps
step_below [] k event h = absurd (cc)
step_below (x ∷ xs) zero event h = omega arith
step_below (x ∷ xs) (suc k) event h = let less = step_below xs k event h in omega (arith, less)
