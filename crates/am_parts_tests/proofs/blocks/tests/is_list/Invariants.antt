use Rattle.std.proofs.Common.{◌<◌, IfSome}
use Rattle.am_block.specs.Pools.{size}
use Rattle.am_parts_tests.proofs.blocks.tests.is_list.Given as goal

abbrev pub invariant-loop-wanted : goal.invariant-loop-wanted
invariant-loop-wanted l = record { below : IfSome l.next (λ s. s.0 < size l.block) }
