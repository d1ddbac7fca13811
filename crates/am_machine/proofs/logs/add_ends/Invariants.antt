use Rattle.std.proofs.Common.{◌≡◌, ◌++◌, map, take}
use Rattle.am_machine_journal.specs.Merge.Joined.{lists_of}
use Rattle.am_machine.specs.Node.Parts.{log_of}
use Rattle.am_machine.proofs.logs.add_ends.Given as goal

abbrev pub invariant-loop-end : goal.invariant-loop-end
invariant-loop-end l = lists_of l.logs.items ≡ lists_of l.initial.logs.items ++ map log_of (take l.end-index l.ends)
