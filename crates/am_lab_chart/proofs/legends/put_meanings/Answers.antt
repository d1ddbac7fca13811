use Rattle.std.proofs.Common.{arith, sym, ◌∙◌}
use Rattle.std.proofs.lemmas.Grind.{common_steps}
use Rattle.am_lab_chart.specs.Legends.{explained_as}
use Rattle.am_lab_chart.proofs.Explained.{meaning_more, some_now}
use Rattle.am_lab_chart.proofs.legends.put_meanings.Goals as goal

pub loop-meaning-preserved : goal.loop-meaning-preserved
loop-meaning-preserved c =
    record {
      near = grind (arith, common_steps);
      some = some_now c.args.picture.now c.args.meanings.now c.loop-meaning.meaning-index _ (explained_as c.explain-shown.result) c.loop-meaning.has_some _
          c.loop-meaning-test.true c.explain-shown.ensures (sym c.occurs.ensures ∙ c.if-not-occurs.false) c.loop-meaning.invariant.some;
      out = meaning_more c.args.picture.now c.args.meanings.now c.loop-meaning.x c.args.y c.loop-meaning.meaning-index _ _ (explained_as c.explain-shown.result) _ _ _
          c.loop-meaning-test.true c.explain-shown.ensures (sym c.occurs.ensures ∙ c.if-not-occurs.false) c.from.ensures c.loop-meaning.invariant.out
          c.in_ok-put_meaning.ensures;
    }
