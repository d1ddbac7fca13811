use Rattle.am_segment.proofs.Grown.{piece_more}
use Rattle.am_segment.proofs.texts.put_transfer.Goals as goal

pub loop-k-preserved : goal.loop-k-preserved
loop-k-preserved c = piece_more _ _ _ _ _ _ _ _ _ _ c.piece_at.ensures.exact c.words-words.ensures c.loop-k.invariant c.in_ok-put_request.ensures
    c.in_ok-put_poll.ensures
