use Rattle.std.proofs.Common.{◌≡◌, ◌<◌, ◌≤◌, true}
use Rattle.am_lab_schedules.specs.Finds.{IsRunThat, NoneIsWanted}
use Rattle.am_lab_schedules.specs.Trials.{tried}
use Rattle.am_lab_schedules.specs.declared.finds.Found.{Found}
use Rattle.am_lab_schedules.proofs.Finding.{is_found, where_some}
use Rattle.am_main_lines.specs.Lines.{answer_in}
use Rattle.am_lab_schedules.proofs.finds.search_output.Goals as goal

pub returns-in-Some : goal.returns-in-Some
returns-in-Some c =
    let s = c.args.scenario.now in
    let other = c.find_seed.new.scenario in
    let option = c.in_ok-found.field-0 in
    let found = c.in-Some.found in
    let is = c.in-Some.is in
    let says = c.in_ok-found.ensures in
    let low = where_some (λ (f : Found). c.args.from ≤ f.seed) option found is says.low in
    let high = where_some (λ (f : Found). f.seed < c.args.to) option found is says.high in
    let before = where_some (λ (f : Found). NoneIsWanted c.args.faults s c.args.wanted c.args.given.now c.args.from f.seed) option found is says.before in
    let run =
    where_some (λ (f : Found). IsRunThat (tried c.args.faults f.seed s) f.seed c.args.wanted c.args.given.now true (answer_in f.of_run)) option found is says.found in
    let scenario = where_some (λ (f : Found). other ≡ tried c.args.faults f.seed s) option found is says.scenario in
    is_found c.args.faults s other c.args.wanted c.args.given.now c.args.from c.args.to found.seed (answer_in found.of_run) c.found_with_scenario.result low high
    before run scenario says.stands c.found_with_scenario.ensures
