use Rattle.std.proofs.Common.{◌≡◌, true, get_or, sym, ◌∙◌, arith}
use Rattle.am_lemmas.proofs.Lists.{rest_is, some_is}
use Rattle.am_lexer.specs.Text.{is_digit}
use Rattle.am_lexer.proofs.ShortNumbers.{one_digit_more, digit_at_most, at_space, at_text_end}
use Rattle.am_lexer.proofs.short.leading_number.Goals as goal

pub returns-then-i-gt0 : goal.returns-then-i-gt0
returns-then-i-gt0 c =
    rw rest_is (at_space c.args.text.now c.loop-i.i c.loop-i.number (omega arith) c.loop-i-test.true c.if-byte-eq32.true (omega arith)
    c.loop-i.invariant.spelled)

pub loop-i-preserved : goal.loop-i-preserved
loop-i-preserved c =
    let digit : is_digit (get_or c.args.text.now c.loop-i.i 0) ≡ true = sym c.is_ascii_digit.ensures.value ∙ c.if-not-is_ascii_digit.false in
    rw c.from.ensures (record {
      small = omega (arith, digit_at_most (get_or c.args.text.now c.loop-i.i 0) digit);
      spelled = one_digit_more c.args.text.now c.loop-i.i c.loop-i.number c.loop-i-test.true digit c.loop-i.invariant.spelled;
    })

pub returns-else-is_empty : goal.returns-else-is_empty
returns-else-is_empty c =
    let some = some_is _ _ c.is_empty.ensures c.if-is_empty.false in
    at_text_end c.args.text.now c.loop-i.i c.loop-i.number some c.loop-i-test.false (omega arith) c.loop-i.invariant.spelled
