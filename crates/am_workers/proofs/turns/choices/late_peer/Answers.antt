use Rattle.std.specs.Prelude.{is_some}
use Rattle.std.proofs.Common.{◌<◌, ◌∙◌, ℕ, Option, ap, subst, sym}
use Rattle.am_iface.specs.Settings.{SettingsView}
use Rattle.am_model.specs.Layout.{node_at}
use Rattle.am_workers.specs.Turns.Chosen.{late_channel}
use Rattle.am_workers.proofs.Firsts.{first_later}
use Rattle.am_workers.proofs.turns.choices.late_peer.Goals as goal

pub loop-number-preserved : goal.loop-number-preserved
loop-number-preserved c =
    let i = c.args.interface.now in let k = c.loop-number.number in
    c.loop-number.invariant
    ∙ first_later (λ (n : ℕ). is_some (late_channel c.args.waits.now i (node_at n))) k i.settings.nodes
    (subst (λ (set : SettingsView). k < set.nodes) (c.set.view_is ∙ c.requires.set) c.loop-number-test.true)
    (ap (λ (o : Option ℕ). is_some o) (sym c.late_channel.ensures.value) ∙ sym c.is_some.ensures ∙ c.if-is_some.false)
