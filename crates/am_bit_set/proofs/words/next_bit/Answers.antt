use Rattle.std.proofs.Common.{arith}
use Rattle.std.proofs.Math.Nat.{div-le_self}
use Rattle.am_bit_set.proofs.Bitwise.{below_64, next_none, next_some}
use Rattle.am_bit_set.proofs.words.next_bit.Goals as goal

pub returns-then-left-eq0-clause-next : goal.returns-then-left-eq0-clause-next
returns-then-left-eq0-clause-next c = next_none c.args.word c.args.from c.if-left-eq0.true

pub returns-else-left-eq0-clause-next : goal.returns-else-left-eq0-clause-next
returns-else-left-eq0-clause-next c = next_some c.args.word c.args.from (omega arith) (omega (arith, div-le_self))

pub returns-else-left-eq0-clause-within : goal.returns-else-left-eq0-clause-within
returns-else-left-eq0-clause-within c =
    below_64 c.args.word _ (omega arith) (next_some c.args.word c.args.from (omega arith) (omega (arith, div-le_self))).1
