use Rattle.std.proofs.Common.{sym, ◌∙◌, arith, true, false}
use Rattle.am_model_scripts.specs.Layout.{layout_of}
use Rattle.am_cluster_drainer.proofs.Ranges.{found_here, not_here, found_past}
use Rattle.am_cluster_drainer.proofs.Planned.{is_free, free_read}
use Rattle.am_cluster_drainer.proofs.frames.free_frame.Goals as goal

pub returns-then-not-is_frame_held-clause-value : goal.returns-then-not-is_frame_held-clause-value
returns-then-not-is_frame_held-clause-value g c =
    let m = g.M.Drainable in
    let layout = layout_of (m.scenario c.args.machine.now) in
    let past = m.journal c.args.machine.now in
    let free = free_read layout past c.args.node c.frames.frame c.is_frame_held.result false c.is_frame_held.ensures c.if-not-is_frame_held.true in
    sym (found_here (is_free layout past c.args.node) c.frames.frame _ (omega arith) free) ∙ c.frames.invariant.first

pub frames-preserved : goal.frames-preserved
frames-preserved g c =
    let m = g.M.Drainable in
    let layout = layout_of (m.scenario c.args.machine.now) in
    let past = m.journal c.args.machine.now in
    let held = free_read layout past c.args.node c.frames.frame c.is_frame_held.result true c.is_frame_held.ensures c.if-not-is_frame_held.false in
    record {
      frames = c.frames.invariant.frames;
      first = not_here (is_free layout past c.args.node) c.frames.frame _ (omega arith) held ∙ c.frames.invariant.first;
    }

pub returns-clause-value : goal.returns-clause-value
returns-clause-value g c =
    let m = g.M.Drainable in
    sym (found_past (is_free (layout_of (m.scenario c.args.machine.now)) (m.journal c.args.machine.now) c.args.node) c.frames.frame _ (omega arith))
    ∙ c.frames.invariant.first
