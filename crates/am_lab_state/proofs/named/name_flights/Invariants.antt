use Rattle.std.proofs.Common.{◌≡◌, ◌++◌, take}
use Rattle.am_lab_state.specs.Messages.{flights_named}
use Rattle.am_lab_state.proofs.named.name_flights.Given as goal

abbrev pub invariant-loop-flying : goal.invariant-loop-flying
invariant-loop-flying l = l.named.items ≡ l.fn.named.items ++ flights_named (take l.flying-index l.flights)
