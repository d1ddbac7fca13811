use Rattle.am_swap_image.specs.Image.{long}
use Rattle.am_swap_pieces.proofs.Turns.{four}
use Rattle.am_swap_pieces.proofs.writing.put_words.Goals as goal

pub returns : goal.returns
returns c =
    let w = c.args.words in
    four _ _ _ _ _ (long w.a) (long w.b) (long w.c) (long w.d) c.in_ok-put_long.ensures c.in_ok-put_long-2.ensures c.in_ok-put_long-3.ensures
    c.in_ok-put_long-4.ensures
