use Rattle.std.proofs.Common.{sym, subst}
use Rattle.am_iface.specs.Kept.{AreOfLog}
use Rattle.am_iface.specs.Settings.{SettingsView}
use Rattle.am_iface.proofs.Unused as unused
use Rattle.am_iface.proofs.Interface.new.Goals as goal

pub invariant_of-result : goal.invariant_of-result
invariant_of-result c =
    let ends = c.in_ok-ends.ends.items in
    let counts = c.in_ok-emissions.emissions.items in
    subst (λ (set : SettingsView). AreOfLog set ends counts c.new.result.items) (sym c.set.view_is)
    (unused.opened c.args.set ends counts c.new.result.items c.requires c.in_ok-ends.ensures c.in_ok-emissions.ensures c.new.ensures.items)
