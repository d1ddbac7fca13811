use Rattle.std.proofs.Common.{◌≡◌, ◌++◌, take}
use Rattle.std.specs.List.{flat_map}
use Rattle.am_lab_scenarios.specs.Spelling.Texts.{swap_fault_line}
use Rattle.am_lab_scenarios.proofs.spelling.texts.put_faults.Given as goal

abbrev pub invariant-loop-fault : goal.invariant-loop-fault
invariant-loop-fault l = l.out.items ≡ l.fn.out.items ++ flat_map swap_fault_line (take l.fault-index l.faults)
