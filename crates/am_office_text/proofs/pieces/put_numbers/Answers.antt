use Rattle.std.proofs.lemmas.List.{append-nil}
use Rattle.std.specs.Fmt.{decimal}
use Rattle.am_office_text.proofs.Extended.{spaced_nil, next_word}
use Rattle.am_office_text.proofs.pieces.put_numbers.Goals as goal

pub loop-number-init : goal.loop-number-init
loop-number-init c = rw (spaced_nil, append-nil c.args.out.now.items)

pub loop-number-preserved : goal.loop-number-preserved
loop-number-preserved c =
    next_word decimal _ _ _ _ _ _ c.loop-number-test.true c.loop-number.invariant c.in_ok-put_spaced_word.ensures.ok
