use Rattle.std.proofs.Common.{◌*◌}
use Rattle.am_bit_set.proofs.Bitwise.{NoneUpTo}
use Rattle.am_bit_set.proofs.words.next_behind.Given as goal

abbrev pub invariant-loop-index : goal.invariant-loop-index
invariant-loop-index l = NoneUpTo l.words (64 * l.first) (64 * l.index)
