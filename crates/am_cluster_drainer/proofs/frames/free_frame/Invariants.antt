use Rattle.std.proofs.Common.{◌≡◌}
use Rattle.am_model_scripts.specs.Layout.{layout_of}
use Rattle.am_model_scripts.specs.Standings.{standings}
use Rattle.am_model_drain.specs.Ready as plan
use Rattle.am_cluster_drainer.proofs.Ranges.{found_from}
use Rattle.am_cluster_drainer.proofs.Planned.{is_free}
use Rattle.am_cluster_drainer.proofs.frames.free_frame.Given as goal

-- the first that is free is still to come
abbrev pub invariant-frames : goal.invariant-frames
invariant-frames g l =
    let m = g.M.Drainable in
    let s = m.scenario l.machine in
    let past = m.journal l.machine in
    record {
      frames : l.frames ≡ s.frames;
      first : found_from (is_free (layout_of s) past l.node) l.frame l.frames ≡ plan.free_frame (layout_of s) l.node (standings (layout_of s) past);
    }
