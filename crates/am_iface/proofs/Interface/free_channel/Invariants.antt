use Rattle.std.proofs.Common.{◌≡◌, ◌-◌}
use Rattle.am_model.specs.History.{free_from}
use Rattle.am_iface.proofs.Interface.free_channel.Given as goal

abbrev pub invariant-loop-channel : goal.invariant-loop-channel
invariant-loop-channel l =
    free_from l.self.settings.node l.peer l.self.log 0 l.self.settings.channels ≡ free_from l.self.settings.node l.peer l.self.log l.channel
    (l.self.settings.channels - l.channel)
