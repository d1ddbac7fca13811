use Rattle.std.proofs.Common.{◌≡◌, ◌∙◌, ℕ, List, length, ap, subst, arith}
use Rattle.std.specs.Global.{Vec}
use Rattle.std.specs.Prelude.{IfOk}
use Rattle.am_lab_reasons.proofs.Reported.{reported}
use Rattle.am_office_entries.specs.declared.Entry.{Entry}
use Rattle.am_scenario_types.specs.Lists.{ScenarioLists}
use Rattle.am_scenario_types.specs.declared.parts.EndLine.{EndLine}
use Rattle.am_lab_shiviz.specs.Texts.{shiviz_of}
use Rattle.am_lab_shiviz.proofs.command.report_text.Goals as goal

pub journal_text-requires : goal.journal_text-requires
journal_text-requires c =
    let form = c.requires.report.0 in
    let r = c.requires.report.1 in
    let t = reported form c.args.scenario.now c.requires.lawful c.args.bytes.now c.requires.few r in
    let long = ap length (c.in_ok-journal.ensures.made form r) in
    let low = t.low in
    let few = c.requires.few in
    omega (arith, long, low, few)

pub returns : goal.returns
returns c = λ form r.
    let ends = c.args.scenario.now.ends in
    let of_ends = subst (λ (es : List EndLine). IfOk c.journal_text.result (λ (text : Vec ℕ). text.items ≡ shiviz_of es c.in_ok-journal.journal))
    (c.deref.ensures.value ∙ ap (λ (s : ScenarioLists). s.ends) c.scenario.view_is) c.journal_text.ensures in
    subst (λ (j : List Entry). IfOk c.journal_text.result (λ (text : Vec ℕ). text.items ≡ shiviz_of ends j)) (c.in_ok-journal.ensures.made form r) of_ends
