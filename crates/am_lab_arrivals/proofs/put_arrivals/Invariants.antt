use Rattle.std.proofs.Common.{◌≡◌, ◌++◌, take}
use Rattle.std.specs.List.{flat_map}
use Rattle.am_lab_arrivals.specs.Arrivals.{received_line}
use Rattle.am_lab_arrivals.proofs.put_arrivals.Given as goal

abbrev pub invariant-loop-message : goal.invariant-loop-message
invariant-loop-message l = l.out.items ≡ l.fn.out.items ++ flat_map (received_line l.end) (take l.message-index l.received)
