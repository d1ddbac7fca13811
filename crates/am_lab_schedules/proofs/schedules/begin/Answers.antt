use Rattle.std.proofs.Common.{◌≡◌, ℕ, [], Option}
use Rattle.am_lab_schedules.specs.Schedules.{IsMade}
use Rattle.am_lab_schedules.proofs.Seeds.{first_told}
use Rattle.am_office_report.specs.Report.{told}
use Rattle.am_scenario_types.specs.Lists.{ScenarioLists}
use Rattle.am_lab_schedules.proofs.schedules.begin.Goals as goal

pub returns : goal.returns
returns c =
    λ (faults : Option ℕ) (s : ScenarioLists) (seed : ℕ) (is : c.args.run.seed ≡ seed) (made : IsMade faults s c.args.run).
    first_told faults s seed c.args.run c.tell.result is made (c.tell.ensures (told c.args.run.journal) [] c.in_ok-telling.ensures)
