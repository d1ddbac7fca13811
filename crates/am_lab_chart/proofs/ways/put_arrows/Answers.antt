use Rattle.std.proofs.Common.{List, refl}
use Rattle.am_lab_xml.specs.Trees.{each, printed}
use Rattle.am_lab_picture.specs.declared.data.Arrow.{Arrow}
use Rattle.am_lab_chart.specs.Ways.{drawn_arrow}
use Rattle.am_lab_chart.proofs.Each.{one_more}
use Rattle.am_lab_chart.proofs.ways.put_arrows.Goals as goal

pub loop-arrow-preserved : goal.loop-arrow-preserved
loop-arrow-preserved c =
    one_more (λ (item : Arrow). printed (drawn_arrow c.args.picture.now c.args.left item))
    (λ (items : List Arrow). printed (each (drawn_arrow c.args.picture.now c.args.left) items)) c.args.arrows.now
    c.loop-arrow.arrow-index _ _ _ _ _ (λ item rest. refl) c.loop-arrow-test.true refl c.loop-arrow.invariant c.in_ok-put_arrow.ensures
