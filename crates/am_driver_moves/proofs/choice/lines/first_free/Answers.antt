use Rattle.std.proofs.Common.{sym, ◌∙◌, arith}
use Rattle.am_driver_moves.specs.Choice.Moves.{is_free}
use Rattle.am_driver_moves.proofs.Frames.{first_below, none_at}
use Rattle.am_driver_moves.proofs.choice.lines.first_free.Goals as goal

pub returns-then-is_free : goal.returns-then-is_free
returns-then-is_free c =
    sym (first_below (is_free c.args.ends.now) c.loop-frame.frame c.args.frames c.loop-frame.invariant (omega arith) (sym c.is_free.ensures
    ∙ c.if-is_free.true))

pub returns : goal.returns
returns c = sym (none_at (is_free c.args.ends.now) 0 c.args.frames (λ k le less. c.loop-frame.invariant k (omega arith)))
