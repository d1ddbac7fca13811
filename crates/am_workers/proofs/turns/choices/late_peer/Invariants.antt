use Rattle.std.specs.Prelude.{is_some}
use Rattle.std.proofs.Common.{◌≡◌, ◌-◌, ℕ}
use Rattle.am_model.specs.Layout.{node_at}
use Rattle.am_workers.specs.Turns.Chosen.{first_from, late_channel}
use Rattle.am_workers.proofs.turns.choices.late_peer.Given as goal

abbrev pub invariant-loop-number : goal.invariant-loop-number
invariant-loop-number l =
    first_from (λ (n : ℕ). is_some (late_channel l.waits l.interface (node_at n))) 0 l.interface.settings.nodes ≡ first_from (λ (n : ℕ). is_some (late_channel l.waits l.interface (node_at n))) l.number (l.interface.settings.nodes - l.number)
