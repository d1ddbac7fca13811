use Rattle.std.proofs.Common.{ap, ◌∙◌}
use Rattle.am_lab_picture.specs.Messages.{is_seen}
use Rattle.am_lab_picture.proofs.Placing.{one_kept}
use Rattle.am_lab_picture.proofs.messages.spans_at.Goals as goal

pub loop-span-preserved : goal.loop-span-preserved
loop-span-preserved g c =
    one_kept (is_seen c.args.rows.now) c.args.spans.now c.loop-span.span-index _ _ _ _ _ c.loop-span-test.true c.loop-span.invariant c.span-item.is
    (c.is_seen.ensures ∙ ap (is_seen c.args.rows.now) c.span-item.is) c.in_ok-put_if.ensures
