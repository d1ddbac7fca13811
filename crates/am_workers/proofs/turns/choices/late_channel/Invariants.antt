use Rattle.std.proofs.Common.{◌≡◌, ◌-◌}
use Rattle.am_workers.specs.Turns.Chosen.{first_from, is_late}
use Rattle.am_workers.proofs.turns.choices.late_channel.Given as goal

abbrev pub invariant-loop-channel : goal.invariant-loop-channel
invariant-loop-channel l =
    first_from (is_late l.waits l.interface l.peer) 0 l.interface.settings.channels ≡ first_from (is_late l.waits l.interface l.peer) l.channel (l.interface.settings.channels - l.channel)
