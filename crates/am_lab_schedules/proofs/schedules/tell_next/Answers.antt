use Rattle.std.proofs.Common.{◌≡◌, ℕ, ◌<◌, Option}
use Rattle.am_lab_schedules.specs.Outcomes.Outcomes.{first_fates}
use Rattle.am_lab_schedules.specs.Schedules.{IsMade}
use Rattle.am_lab_schedules.specs.Told.{AreTold}
use Rattle.am_lab_schedules.proofs.Seeds.{next_told}
use Rattle.am_scenario_types.specs.Lists.{ScenarioLists}
use Rattle.am_lab_schedules.proofs.schedules.tell_next.Goals as goal

pub returns : goal.returns
returns c =
    λ (faults : Option ℕ) (s : ScenarioLists) (from seed : ℕ) (below : from < seed) (is : c.args.run.seed ≡ seed) (made : IsMade faults s c.args.run)
    (before : AreTold faults s from seed c.args.telling).
    next_told faults s from seed c.args.run c.args.telling c.tell.result below is made before
    (c.tell.ensures (first_fates before.runs) before.runs before.tells)
