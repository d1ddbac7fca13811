use Rattle.std.proofs.Common.{◌∙◌, List, ap}
use Rattle.am_scenario_plan.specs.declared.PlanLine.{PlanLine}
use Rattle.am_scenario.specs.Drafts.Said.{is_planned}
use Rattle.am_scenario.proofs.drafts.plan.Plan.is_planned.Goals as goal

pub returns : goal.returns
returns c =
    c.contains.ensures
    ∙ c.self.invariant (record { number = c.args.number; from = c.args.from; to = c.args.to })
    ∙ ap (λ (lines : List PlanLine). is_planned lines c.args.from c.args.to c.args.number) c.self.view_is
