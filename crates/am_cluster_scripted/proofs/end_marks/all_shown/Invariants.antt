use Rattle.std.proofs.Common.{◌≡◌, length}
use Rattle.am_model_scripts.specs.Layout.{layout_of}
use Rattle.am_cluster_scripted.proofs.EndMarked.{AreMarkedTo}
use Rattle.am_cluster_scripted.proofs.end_marks.all_shown.Given as goal

abbrev pub invariant-loop-place : goal.invariant-loop-place
invariant-loop-place l = record {
  count : l.count ≡ length l.scenario.ends;
  to : AreMarkedTo (layout_of l.scenario) l.cluster.journal l.place l.marks;
}
