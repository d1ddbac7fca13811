use Rattle.std.proofs.Common.{rules}
use Rattle.am_bit_set.proofs.Bitwise.{is_next}
use Rattle.am_bit_set.proofs.BitSet.next.Goals as goal

pub returns : goal.returns
returns c = is_next c.args.self.now c.args.from c.next_in.result (search rules) c.next_in.ensures
