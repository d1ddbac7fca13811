use Rattle.std.proofs.Common.{◌≡◌, ◌++◌, take}
use Rattle.am_machine_journal.specs.Merge.Joined.{lists_of}
use Rattle.am_machine.specs.Kept.{interface_logs}
use Rattle.am_machine.proofs.logs.add_interfaces.Given as goal

abbrev pub invariant-loop-interface : goal.invariant-loop-interface
invariant-loop-interface l = lists_of l.logs.items ≡ lists_of l.initial.logs.items ++ interface_logs (take l.interface-index l.interfaces)
