use Rattle.std.proofs.Common.{◌≡◌, take}
use Rattle.am_machine_journal.specs.Merge.Joined.{lists_of}
use Rattle.am_machine.specs.Node.Parts.{all_logs}
use Rattle.am_machine.proofs.node.journals.journal_of.Given as goal

abbrev pub invariant-loop-part : goal.invariant-loop-part
invariant-loop-part l = lists_of l.logs.items ≡ all_logs (take l.part-index l.parts)
