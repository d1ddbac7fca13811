use Rattle.std.proofs.Common.{◌++◌, List, ap, ◌∙◌}
use Rattle.std.specs.List.{flat_map}
use Rattle.am_scenario_types.specs.Lists.{ScenarioLists}
use Rattle.am_scenario_types.specs.declared.parts.EndLine.{EndLine}
use Rattle.am_lab_state.specs.Nodes.{frame_lines, owner_line}
use Rattle.am_lab_state.proofs.Following.{put_number}
use Rattle.am_lab_state.proofs.nodes.put_frames.Goals as goal

pub loop-frame-preserved : goal.loop-frame-preserved
loop-frame-preserved c =
    let s = c.args.scenario.now in
    let j = c.args.cluster.now.journal in
    let frame = c.loop-frame.frame in
    put_number (frame_lines s j c.args.node) frame c.args.out.now.items c.loop-frame.out.items c.put_owners.new.out.items
    (c.in_ok-put_owners.ensures
    ∙ ap (λ (ends : List EndLine). c.loop-frame.out.items ++ flat_map (owner_line s j c.args.node frame) ends)
    (c.deref.ensures.value ∙ ap (λ (v : ScenarioLists). v.ends) c.scenario.view_is))
    c.loop-frame.invariant
