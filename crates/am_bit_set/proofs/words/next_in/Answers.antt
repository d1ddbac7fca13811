use Rattle.std.proofs.Common.{◌/◌, ◌%◌, arith}
use Rattle.am_bit_set.proofs.Bitwise.{behind_first, found_in, none_left}
use Rattle.am_bit_set.proofs.words.next_in.Goals as goal

pub returns-in-Some : goal.returns-in-Some
returns-in-Some c =
    found_in c.args.words.now c.args.from (c.args.from / 64) (c.args.from % 64) c.in-Some.bit c.in-Some.ensures.within (omega arith)
    (λ k le lt. absurd (omega (arith, le, lt))) c.in-Some.ensures.next

pub returns-in-None : goal.returns-in-None
returns-in-None c = behind_first c.args.words.now c.args.from c.next_behind.result (none_left c.args.words.now c.args.from c.in-None.ensures.next)
    c.next_behind.ensures
