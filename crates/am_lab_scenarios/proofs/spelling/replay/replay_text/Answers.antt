use Rattle.std.proofs.Common.{◌≡◌, ℕ, List, sym, subst, ◌∙◌}
use Rattle.am_scenario_types.specs.declared.parts.Form.TheVariants.{Step}
use Rattle.am_scenario.specs.Laws.{Spells}
use Rattle.am_lab_scenarios.specs.Spelling.Texts.{scenario_text}
use Rattle.am_lab_scenarios.specs.Spelling.Replays.{step_script, replayed}
use Rattle.am_lab_scenarios.proofs.Replayed.{joined, text_is, replay_is_read}
use Rattle.am_lab_scenarios.proofs.spelling.replay.replay_text.Goals as goal

pub returns-clause-exact : goal.returns-clause-exact
returns-clause-exact c = joined _ _ _ _ _ _ _ c.new-out.ensures.items c.in_ok-put_settings.ensures c.in_ok-put_unplanned.ensures c.in_ok-put_journal.ensures
    ∙ text_is c.args.scenario.now c.args.journal.now

pub returns-clause-spells : goal.returns-clause-spells
returns-clause-spells c lawful may =
    let text : c.put_journal.new.out.items ≡ scenario_text (step_script c.args.scenario.now c.args.journal.now) =
    joined _ _ _ _ _ _ _ c.new-out.ensures.items c.in_ok-put_settings.ensures c.in_ok-put_unplanned.ensures c.in_ok-put_journal.ensures
    ∙ text_is c.args.scenario.now c.args.journal.now in
    subst (λ (bytes : List ℕ). Spells Step bytes (replayed c.args.scenario.now c.args.journal.now)) (sym text)
    (replay_is_read c.args.scenario.now c.args.journal.now lawful may)
