use Rattle.std.proofs.Common.{◌≡◌, ◌++◌, take}
use Rattle.std.specs.List.{flat_map}
use Rattle.am_lab_state.specs.Ends.{flying_line}
use Rattle.am_lab_state.proofs.messages.put_flights.Given as goal

abbrev pub invariant-loop-flying : goal.invariant-loop-flying
invariant-loop-flying l = l.out.items ≡ l.fn.out.items ++ flat_map (flying_line l.end) (take l.flying-index l.flights)
