use Rattle.std.proofs.Common.{◌+◌, false, get_or, refl, ap, ◌∙◌}
use Rattle.am_scenario_types.specs.declared.parts.EndLine.{EndLine}
use Rattle.am_lab_picture.specs.Lanes.{LaneTracked, lane_ended}
use Rattle.am_lab_drawings.proofs.Passing.{all_ended_passed, ended_next}
use Rattle.am_lab_drawings.proofs.view.lanes.ended.Goals as goal

pub loop-index-preserved : goal.loop-index-preserved
loop-index-preserved c =
    let e : EndLine = record { id = record { 0 = 0 }; node = record { 0 = 0 }; tag = record { 0 = 0 }; disk = false } in
    let i = c.loop-index.index in
    ended_next c.args.line i (i + 1) c.args.tracks.now c.args.ends.now c.index-tracks-index.result e c.in_ok-lane.lane c.loop-index.lanes.items
    c.push.new.self.items
    refl c.loop-index-test.true c.requires
    (c.in_ok-lane.ensures ∙ ap (λ (t : LaneTracked). lane_ended (get_or c.args.ends.now i e) t c.args.line) c.index-tracks-index.is)
    c.loop-index.invariant c.in_ok-push.ensures.items

pub returns : goal.returns
returns c =
    all_ended_passed c.args.line c.loop-index.index c.args.tracks.now c.args.ends.now c.loop-index.lanes.items c.loop-index-test.false c.requires
    c.loop-index.invariant
