use Rattle.std.proofs.Common.{◌*◌, arith}
use Rattle.am_bit_set.proofs.Bitwise.{found_in, none_found, none_more, none_yet}
use Rattle.am_bit_set.proofs.words.next_behind.Goals as goal

pub loop-index-init : goal.loop-index-init
loop-index-init c = none_yet _ _

pub loop-index-preserved : goal.loop-index-preserved
loop-index-preserved c = none_more c.args.words.now (64 * c.args.first) c.loop-index.index c.loop-index.invariant c.in_default.ensures.next

pub returns-in-Some : goal.returns-in-Some
returns-in-Some c =
    found_in c.args.words.now (64 * c.args.first) c.loop-index.index 0 c.in-Some.bit c.in-Some.ensures.within (omega arith)
    (λ k le lt. c.loop-index.invariant k le (omega (arith, lt))) c.in-Some.ensures.next

pub returns : goal.returns
returns c = none_found c.args.words.now (64 * c.args.first) c.requires (λ k le lt. c.loop-index.invariant k le (omega (arith, lt)))
