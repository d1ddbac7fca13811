use Rattle.std.proofs.Common.{sym, ◌∙◌, ◌+◌, true, false}
use Rattle.am_model_scripts.specs.Layout.{layout_of}
use Rattle.am_cluster_scripted.proofs.Looking.{held_found, held_more, seen_in}
use Rattle.am_cluster_scripted.proofs.looks.is_frame_held.Goals as goal

pub returns-then-is_in_frame_of : goal.returns-then-is_in_frame_of
returns-then-is_in_frame_of c =
    let s = c.args.scenario.now in
    let v = c.args.cluster.now in
    let one = c.end_at.result.now in
    sym (held_found (layout_of s) v.journal c.args.node c.args.frame (c.ends.index + 1)
    (held_more (layout_of s) v.journal c.args.node c.args.frame c.ends.index one true
    (seen_in s v c.ends.index one c.requires.parts.layout c.end_at.ensures.setting c.end_at.ensures.state)
    (sym c.if-is_in_frame_of.true ∙ c.is_in_frame_of.ensures) c.ends.invariant.none))

pub ends-preserved : goal.ends-preserved
ends-preserved c =
    let s = c.args.scenario.now in
    let v = c.args.cluster.now in
    let one = c.end_at.result.now in
    record {
      count = c.ends.invariant.count;
      none =
          held_more (layout_of s) v.journal c.args.node c.args.frame c.ends.index one false
          (seen_in s v c.ends.index one c.requires.parts.layout c.end_at.ensures.setting c.end_at.ensures.state)
          (sym c.if-is_in_frame_of.false ∙ c.is_in_frame_of.ensures) c.ends.invariant.none;
    }
