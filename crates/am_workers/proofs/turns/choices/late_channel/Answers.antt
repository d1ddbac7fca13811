use Rattle.std.proofs.Common.{◌<◌, ◌∙◌, subst, sym}
use Rattle.am_iface.specs.Settings.{SettingsView}
use Rattle.am_workers.specs.Turns.Chosen.{is_late}
use Rattle.am_workers.proofs.Firsts.{first_later}
use Rattle.am_workers.proofs.turns.choices.late_channel.Goals as goal

pub loop-channel-preserved : goal.loop-channel-preserved
loop-channel-preserved c =
    let i = c.args.interface.now in let k = c.loop-channel.channel in
    c.loop-channel.invariant
    ∙ first_later (is_late c.args.waits.now i c.args.peer) k i.settings.channels
    (subst (λ (set : SettingsView). k < set.channels) (c.set.view_is ∙ c.requires.set) c.loop-channel-test.true) (sym c.is_late.ensures ∙ c.if-is_late.false)
