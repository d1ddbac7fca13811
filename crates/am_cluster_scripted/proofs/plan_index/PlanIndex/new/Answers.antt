use Rattle.std.proofs.Common.{◌-◌, drop, length}
use Rattle.am_cluster_scripted.proofs.Indexing.{one_before}
use Rattle.am_cluster_scripted.proofs.plan_index.PlanIndex.new.Goals as goal

pub loop-done-preserved : goal.loop-done-preserved
loop-done-preserved c =
    let lines = c.args.lines.now in
    record {
      has =
          one_before lines c.add_line.new.links.items c.loop-done.done _ c.loop-done-test.true
          (c.in_ok-add_line.ensures (drop (length lines - c.loop-done.done) lines) c.loop-done.invariant.has);
    }
