use Rattle.std.proofs.Common.{◌≡◌, length}
use Rattle.am_model_scripts.specs.Layout.{layout_of}
use Rattle.am_model_scripts.specs.Standings.{standings}
use Rattle.am_cluster_drainer.specs.Reads.{head_of}
use Rattle.am_cluster_drainer.specs.Choices.{first_read, passes_head}
use Rattle.am_cluster_drainer.proofs.Finding.{read_from}
use Rattle.am_cluster_drainer.proofs.frames.first_head.Given as goal

-- the first that passes is still to come
abbrev pub invariant-ends : goal.invariant-ends
invariant-ends g l =
    let m = g.M.Drainable in
    let ends = standings (layout_of (m.scenario l.machine)) (m.journal l.machine) in
    record {
      count : l.count ≡ length ends;
      first : read_from head_of (passes_head l.test) l.index ends ≡ first_read head_of (passes_head l.test) ends;
    }
