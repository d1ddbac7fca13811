use Rattle.std.proofs.Common.{◌≡◌}
use Rattle.am_wire_relay.specs.Relays.{SameOut, emitted}
use Rattle.am_example_sums.specs.Numbers.{numbers_to}
use Rattle.am_example_sums.proofs.send.Given as goal

abbrev pub invariant-loop-number : goal.invariant-loop-number
invariant-loop-number l = record { same : SameOut l.initial.out l.out; sent : emitted l.out ≡ numbers_to l.number }
