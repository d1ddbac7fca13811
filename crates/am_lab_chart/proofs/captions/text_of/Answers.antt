use Rattle.std.proofs.Common.{List, map, refl}
use Rattle.am_office_text.specs.Pieces.{word_of}
use Rattle.am_office_text.specs.declared.pieces.LinePiece.{LinePiece}
use Rattle.am_lab_chart.specs.Captions.{joined}
use Rattle.am_lab_chart.proofs.Each.{one_more}
use Rattle.am_lab_chart.proofs.captions.text_of.Goals as goal

pub loop-word-preserved : goal.loop-word-preserved
loop-word-preserved c =
    one_more word_of (λ (items : List LinePiece). joined (map word_of items)) c.args.words.now c.loop-word.word-index _ _ _ _ _
    (λ item rest. refl) c.loop-word-test.true refl c.loop-word.invariant c.in_ok-put_word.ensures.ok
