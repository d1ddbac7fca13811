use Rattle.std.proofs.Common.{◌≡◌, ◌+◌, ◌≤◌, length}
use Rattle.std.specs.Prelude.{filter}
use Rattle.am_model_scripts.specs.Layout.{layout_of}
use Rattle.am_model_scripts.specs.Standings.{standings}
use Rattle.am_model_drain.specs.Ready as plan
use Rattle.am_cluster_drainer.specs.Reads.{head_of}
use Rattle.am_cluster_drainer.specs.Choices.{is_open_on_host}
use Rattle.am_cluster_drainer.proofs.Finding.{count_from}
use Rattle.am_cluster_drainer.proofs.frames.count_on_host.Given as goal

-- with those that are still to come they are all
abbrev pub invariant-ends : goal.invariant-ends
invariant-ends g l =
    let m = g.M.Drainable in
    let ends = standings (layout_of (m.scenario l.machine)) (m.journal l.machine) in
    record {
      count : l.count ≡ length ends;
      within : l.found ≤ l.index;
      all : l.found + count_from head_of (is_open_on_host l.node) l.index ends ≡ length (filter (plan.is_open_on_host l.node) ends);
    }
