use Rattle.am_bit_set.proofs.Bitwise.{no_bit, none_marked}
use Rattle.am_bit_set.proofs.BitSet.new.Goals as goal

pub returns : goal.returns
returns c = λ k. none_marked _ k (no_bit k)
