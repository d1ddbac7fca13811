use Rattle.std.proofs.Common.{◌++◌, Option, ap, arith, ◌∙◌}
use Rattle.am_lab_picture.specs.Arrows.{arrow_shown, if_shown}
use Rattle.am_lab_picture.specs.declared.data.Arrow.{Arrow}
use Rattle.am_lab_picture.proofs.Numbered.{one_more}
use Rattle.am_lab_picture.proofs.packets.arrows.Goals as goal

pub loop-entry-preserved : goal.loop-entry-preserved
loop-entry-preserved c =
    record {
      line = omega arith;
      made = one_more (arrow_shown c.args.journal.now c.args.lines) _ c.loop-entry.line c.loop-entry.entry-index _ _ _ _ c.loop-entry-test.true
          c.loop-entry.invariant.made
          (c.in_ok-put_if_shown.ensures ∙ ap (λ (found : Option Arrow). c.loop-entry.made.items ++ if_shown c.args.lines found) c.arrow.ensures);
    }
