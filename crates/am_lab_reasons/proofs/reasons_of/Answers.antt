use Rattle.std.proofs.Common.{◌∙◌, ap}
use Rattle.am_scenario_types.specs.Lists.{ScenarioLists}
use Rattle.am_lab_reasons.proofs.Reported.{told_of}
use Rattle.am_lab_reasons.proofs.reasons_of.Goals as goal

pub returns : goal.returns
returns c = λ form r.
    let s = c.args.scenario.now in
    told_of form s c.args.bytes.now c.args.serial r c.deref.result.now c.in_ok-journal.journal c.text_of.result
    (c.deref.ensures.value ∙ ap (λ (l : ScenarioLists). l.plan) c.scenario.view_is) (c.in_ok-journal.ensures ∙ c.in_ok-journal_of.ensures.made form r) c.text_of.ensures
