use Rattle.std.proofs.Common.{List, refl}
use Rattle.am_lab_xml.specs.Trees.{each, printed}
use Rattle.am_lab_picture.specs.Data.{LaneLists}
use Rattle.am_lab_chart.specs.Lanes.{end_head}
use Rattle.am_lab_chart.proofs.Each.{one_more}
use Rattle.am_lab_chart.proofs.lanes.put_end_heads.Goals as goal

pub loop-lane-preserved : goal.loop-lane-preserved
loop-lane-preserved c =
    one_more (λ (item : LaneLists). printed (end_head c.args.picture.now c.args.left item))
    (λ (items : List LaneLists). printed (each (end_head c.args.picture.now c.args.left) items)) c.args.ends.now
    c.loop-lane.lane-index _ _ _ _ _ (λ item rest. refl) c.loop-lane-test.true c.lane-item.is c.loop-lane.invariant c.in_ok-put_end_head.ensures
