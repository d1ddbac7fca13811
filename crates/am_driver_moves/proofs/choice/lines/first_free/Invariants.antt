use Rattle.std.proofs.Common.{◌≡◌, ℕ, ◌<◌, false}
use Rattle.am_driver_moves.specs.Choice.Moves.{is_free}
use Rattle.am_driver_moves.proofs.choice.lines.first_free.Given as goal

abbrev pub invariant-loop-frame : goal.invariant-loop-frame
invariant-loop-frame l = (k : ℕ) → k < l.frame → is_free l.ends k ≡ false
