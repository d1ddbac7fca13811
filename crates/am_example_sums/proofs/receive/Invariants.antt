use Rattle.am_wire_relay.specs.Relays.{SameIn}
use Rattle.am_example_sums.proofs.receive.Given as goal

abbrev pub invariant-loop-look : goal.invariant-loop-look
invariant-loop-look l = record { same : SameIn l.initial.inn l.inn }
