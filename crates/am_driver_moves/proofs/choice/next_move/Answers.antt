use Rattle.std.proofs.Common.{subst, sym, ◌∙◌}
use Rattle.am_driver_moves.specs.Choice.Shown.{IsEnabledWhereShown}
use Rattle.am_driver_moves.proofs.Enabled.{enabled}
use Rattle.am_driver_moves.proofs.Nothing.{nothing_applies, applies_nothing}
use Rattle.am_driver_moves.proofs.choice.next_move.Goals as goal

pub returns-clause-enabled : goal.returns-clause-enabled
returns-clause-enabled c = subst (IsEnabledWhereShown c.args.view.now) (sym c.first_rule.ensures) (enabled c.args.view.now)

pub returns-clause-nothing : goal.returns-clause-nothing
returns-clause-nothing c = (λ h. nothing_applies c.args.view.now (sym c.first_rule.ensures ∙ h), λ h. c.first_rule.ensures ∙ applies_nothing c.args.view.now h)
