use Rattle.std.proofs.Common.{◌≡◌, ℕ, List, ap, ◌∙◌}
use Rattle.am_office_entries.specs.declared.Entry.{Entry}
use Rattle.am_scenario_plan.specs.declared.plan.PlanLine.{PlanLine}
use Rattle.am_scenario_types.specs.Lists.{ScenarioLists}
use Rattle.am_lab_reasons.specs.Reasons.{reasons}
use Rattle.am_lab_reasons.proofs.Reported.{told_if}
use Rattle.am_lab_reasons.proofs.before.front_text.Goals as goal

pub returns : goal.returns
returns c =
    let s = c.args.front.scenario in
    let journal = c.args.front.journal in
    let serial = c.args.serial in
    let traced = c.in_ok-traced.traced in
    let plan = c.deref.result.now in
    told_if c.text_of.result (λ (out : List ℕ). out ≡ reasons plan traced serial) (λ (out : List ℕ). out ≡ reasons s.plan journal serial)
    (λ out p. p
    ∙ ap (λ (l : List PlanLine). reasons l traced serial) (c.deref.ensures.value ∙ ap (λ (l : ScenarioLists). l.plan) c.scenario.view_is)
    ∙ ap (λ (j : List Entry). reasons s.plan j serial) c.in_ok-traced.ensures)
    c.text_of.ensures
