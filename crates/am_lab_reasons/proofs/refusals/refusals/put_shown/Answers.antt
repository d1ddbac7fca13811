use Rattle.std.proofs.Common.{ℕ, [], ◌∷◌, ◌++◌, ap, ◌∙◌}
use Rattle.am_lab_reasons.specs.Refusals.Refusals.{shown}
use Rattle.am_lab_reasons.proofs.Naming.{named_on}
use Rattle.am_lab_reasons.proofs.refusals.refusals.put_shown.Goals as goal

pub loop-byte-preserved : goal.loop-byte-preserved
loop-byte-preserved c =
    named_on shown c.args.line.now c.loop-byte.byte-index _ c.args.out.now.items c.loop-byte.out.items c.push.new.self.items c.loop-byte-test.true
    c.loop-byte.invariant (c.in_ok-push.ensures.items ∙ ap (λ (b : ℕ). c.loop-byte.out.items ++ b ∷ []) c.shown.ensures)
