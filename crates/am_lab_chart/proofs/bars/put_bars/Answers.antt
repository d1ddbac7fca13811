use Rattle.std.proofs.Common.{List, refl}
use Rattle.am_lab_xml.specs.Trees.{each, printed}
use Rattle.am_lab_picture.specs.Data.{LaneLists}
use Rattle.am_lab_chart.specs.Bars.{lane_bars}
use Rattle.am_lab_chart.proofs.Each.{one_more}
use Rattle.am_lab_chart.proofs.bars.put_bars.Goals as goal

pub loop-lane-preserved : goal.loop-lane-preserved
loop-lane-preserved c =
    one_more (λ (item : LaneLists). printed (lane_bars c.args.picture.now c.args.left item))
    (λ (items : List LaneLists). printed (each (lane_bars c.args.picture.now c.args.left) items)) c.args.lanes.now
    c.loop-lane.lane-index _ _ _ _ _ (λ item rest. refl) c.loop-lane-test.true c.lane-item.is c.loop-lane.invariant c.in_ok-put_lane.ensures
