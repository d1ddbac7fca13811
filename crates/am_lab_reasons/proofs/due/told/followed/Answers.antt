use Rattle.std.proofs.Common.{[], sym, subst}
use Rattle.am_model.specs.History.{EachAfter}
use Rattle.am_model_scripts.specs.Layout.{layout_of}
use Rattle.am_scenario_types.specs.Lists.{ScenarioLists}
use Rattle.am_lab_reasons.specs.Journal.Lines.{IsMadeAgain}
use Rattle.am_lab_reasons.proofs.due.told.followed.Goals as goal

pub follow-requires-clause-again : goal.follow-requires-clause-again
follow-requires-clause-again c =
    subst (λ (t : ScenarioLists). EachAfter (IsMadeAgain (layout_of t)) [] c.args.entries.now) (sym c.in_ok-run.ensures.scenario) c.requires.again
