use Rattle.std.proofs.lemmas.List.{append-nil}
use Rattle.am_office_text.specs.Pieces.{word_of}
use Rattle.am_office_text.proofs.Extended.{spaced_nil, next_word}
use Rattle.am_office_text.proofs.pieces.put_spaced.Goals as goal

pub loop-word-init : goal.loop-word-init
loop-word-init c = rw (spaced_nil, append-nil c.args.out.now.items)

pub loop-word-preserved : goal.loop-word-preserved
loop-word-preserved c =
    next_word word_of _ _ _ _ _ _ c.loop-word-test.true c.loop-word.invariant c.in_ok-put_spaced_word.ensures.ok
