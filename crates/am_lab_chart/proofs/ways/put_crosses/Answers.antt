use Rattle.std.proofs.Common.{List, refl}
use Rattle.am_lab_xml.specs.Trees.{each, printed}
use Rattle.am_lab_picture.specs.declared.data.Cross.{Cross}
use Rattle.am_lab_chart.specs.Ways.{drawn_cross}
use Rattle.am_lab_chart.proofs.Each.{one_more}
use Rattle.am_lab_chart.proofs.ways.put_crosses.Goals as goal

pub loop-cross-preserved : goal.loop-cross-preserved
loop-cross-preserved c =
    one_more (λ (item : Cross). printed (drawn_cross c.args.picture.now c.args.left item))
    (λ (items : List Cross). printed (each (drawn_cross c.args.picture.now c.args.left) items)) c.args.crosses.now
    c.loop-cross.cross-index _ _ _ _ _ (λ item rest. refl) c.loop-cross-test.true refl c.loop-cross.invariant c.in_ok-put_cross.ensures
