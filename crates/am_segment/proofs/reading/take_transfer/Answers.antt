use Rattle.std.proofs.Common.{arith}
use Rattle.am_segment.specs.Drafts.{laid}
use Rattle.am_segment.proofs.Grown.{sent_laid}
use Rattle.am_segment.proofs.reading.take_transfer.Goals as goal

pub returns : goal.returns
returns c = sent_laid (laid c.args.said.now) c.args.number c.args.thread c.args.sent _ _ _ _ _ (omega arith) c.piece_count-calls.ensures
    c.in_ok-push.ensures.items c.in_ok-put_transfer.ensures c.in_ok-put_origins.ensures
