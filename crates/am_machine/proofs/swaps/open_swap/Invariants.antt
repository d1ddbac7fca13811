use Rattle.std.proofs.Common.{◌≡◌, [], take}
use Rattle.am_machine.specs.Presets.{fails_of, preset_all}
use Rattle.am_machine.proofs.swaps.open_swap.Given as goal

abbrev pub invariant-loop-line : goal.invariant-loop-line
invariant-loop-line l = l.swap ≡ preset_all l.node (take l.line-index l.lines) (record { held = []; fails = fails_of l.node l.faults; calls = 0; faults = 0 })
