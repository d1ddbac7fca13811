use Rattle.std.proofs.Common.{◌≡◌, ◌+◌, ◌-◌, length}
use Rattle.am_model_scripts.specs.Layout.{layout_of}
use Rattle.am_model_drain.specs.Ready as plan
use Rattle.am_cluster_drainer.specs.Stops.{Reaches}
use Rattle.am_cluster_drainer.proofs.pages.off_disk.Given as goal

-- what is left makes of the journal what all was to make of the first one
abbrev pub invariant-page_ins : goal.invariant-page_ins
invariant-page_ins g l =
    let m = g.M.Drainable in
    let layout = layout_of (m.scenario l.fn.machine) in
    record {
      scenario : m.scenario l.machine ≡ m.scenario l.fn.machine;
      most : l.most ≡ length layout.faults + 1;
      left : plan.paged_in (l.most - l.counter) layout l.node l.end (m.journal l.machine) ≡ plan.off_disk layout l.node l.end (m.journal l.fn.machine);
      reaches : Reaches (m.scenario l.fn.machine) (m.journal l.fn.machine) (m.journal l.machine);
    }
