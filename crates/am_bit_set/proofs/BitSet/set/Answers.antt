use Rattle.std.proofs.Common.{rules, refl}
use Rattle.am_bit_set.proofs.Bitwise.{is_set}
use Rattle.am_bit_set.proofs.BitSet.set.Goals as goal

pub returns : goal.returns
returns c = λ k. is_set c.args.self.now _ c.args.place c.put_bit.result k c.args.marked (search rules) c.requires refl c.put_bit.ensures.here
    c.put_bit.ensures.others
