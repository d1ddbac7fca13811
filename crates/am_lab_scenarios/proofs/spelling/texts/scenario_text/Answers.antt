use Rattle.std.proofs.Common.{◌≡◌, ℕ, List, ◌++◌, sym, ap, subst, ◌∙◌}
use Rattle.am_scenario_types.specs.declared.parts.Form.TheVariants.{Run}
use Rattle.am_scenario.specs.Laws.{Spells}
use Rattle.am_lab_scenarios.specs.Spelling.Texts.{scenario_text, as_printed}
use Rattle.am_lab_scenarios.proofs.Spelled.{printed_is_read, printed_run_is_read}
use Rattle.am_lab_scenarios.proofs.spelling.texts.scenario_text.Goals as goal

pub returns-clause-spells : goal.returns-clause-spells
returns-clause-spells c form lawful of_form =
    let text : c.put_scenario.new.out.items ≡ scenario_text c.args.scenario.now = c.in_ok-put_scenario.ensures
    ∙ ap (λ (l : List ℕ). l ++ scenario_text c.args.scenario.now) c.new-out.ensures.items in
    subst (λ (bytes : List ℕ). Spells form bytes (as_printed c.args.scenario.now)) (sym text) (printed_is_read form c.args.scenario.now lawful of_form)

pub returns-clause-spells_run : goal.returns-clause-spells_run
returns-clause-spells_run c lawful of_form =
    let text : c.put_scenario.new.out.items ≡ scenario_text c.args.scenario.now = c.in_ok-put_scenario.ensures
    ∙ ap (λ (l : List ℕ). l ++ scenario_text c.args.scenario.now) c.new-out.ensures.items in
    subst (λ (bytes : List ℕ). Spells Run bytes c.args.scenario.now) (sym text) (printed_run_is_read c.args.scenario.now lawful of_form)
