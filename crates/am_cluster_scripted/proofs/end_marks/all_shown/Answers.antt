use Rattle.std.proofs.Common.{◌≤◌, arith, length, rules}
use Rattle.std.proofs.lemmas.List.{length-map}
use Rattle.am_model_scripts.specs.Layout.{layout_of, setting_of}
use Rattle.am_cluster_scripted.proofs.EndMarked.{marked_all, marked_more, marked_none}
use Rattle.am_cluster_scripted.proofs.end_marks.all_shown.Goals as goal

pub loop-place-init : goal.loop-place-init
loop-place-init c = record {
  count = search rules;
  to = marked_none (layout_of c.args.scenario.now) c.args.cluster.now.journal c.no_ends-marks.result c.no_ends-marks.ensures;
}

pub loop-place-preserved : goal.loop-place-preserved
loop-place-preserved c = record {
  count = c.loop-place.invariant.count;
  to = marked_more (layout_of c.args.scenario.now) c.args.cluster.now.journal c.loop-place.place c.loop-place.marks c.mark_place.new.marks
      c.loop-place.invariant.to c.mark_place.ensures;
}

pub returns : goal.returns
returns c =
    let len = length-map c.args.scenario.now.ends setting_of in
    let all = c.loop-place.invariant.count in
    let reached : length (layout_of c.args.scenario.now).ends ≤ c.loop-place.place = omega (arith, len, all) in
    marked_all (layout_of c.args.scenario.now) c.args.cluster.now.journal c.loop-place.place c.loop-place.marks reached c.loop-place.invariant.to
