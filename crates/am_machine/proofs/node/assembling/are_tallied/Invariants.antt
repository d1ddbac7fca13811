use Rattle.std.proofs.Common.{ℕ, ◌<◌}
use Rattle.std.specs.Prelude.{slice_index_or}
use Rattle.am_machine.specs.Swaps.{IsTallied}
use Rattle.am_machine.specs.declared.node.NodePart.{NodePart}
use Rattle.am_machine.proofs.node.assembling.are_tallied.Given as goal

abbrev pub invariant-loop-part : goal.invariant-loop-part
invariant-loop-part l = (k : ℕ) (d : NodePart) → k < l.part-index → IsTallied (slice_index_or l.parts k d).swap
