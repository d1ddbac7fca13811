use Rattle.std.specs.List.{list_any}
use Rattle.std.proofs.Common.{◌≡◌, false, length, take}
use Rattle.am_model_scripts.specs.Layout.{layout_of}
use Rattle.am_model.specs.History.{holds_frame}
use Rattle.am_cluster_scripted.proofs.looks.is_frame_held.Given as goal

abbrev pub invariant-ends : goal.invariant-ends
invariant-ends l = record {
  count : l.count ≡ length (layout_of l.scenario).ends;
  none : list_any (holds_frame (layout_of l.scenario) l.cluster.journal l.node l.frame) (take l.index (layout_of l.scenario).ends) ≡ false;
}
