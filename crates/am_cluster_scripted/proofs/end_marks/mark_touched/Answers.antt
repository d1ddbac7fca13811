use Rattle.am_model_scripts.specs.Layout.{layout_of}
use Rattle.am_cluster_scripted.proofs.EndMarked.{both_touched}
use Rattle.am_cluster_scripted.proofs.end_marks.mark_touched.Goals as goal

pub returns : goal.returns
returns c =
    both_touched (layout_of c.args.scenario.now) c.args.cluster.now.journal c.args.entry.now c.ends_touched-first.result.first
    c.ends_touched-first.result.second c.args.marks.now c.mark_if.new.marks c.mark_if-2.new.marks c.ends_touched-first.ensures c.mark_if.ensures
    c.mark_if-2.ensures
