use Rattle.std.proofs.Common.{◌≡◌}
use Rattle.am_cluster_drainer.specs.Stops.{Reaches}
use Rattle.am_cluster_drainer.proofs.Acting.{Made}
use Rattle.am_cluster_drainer.proofs.drain.Given as goal

-- the journal is that after some turns, with room for each entry
abbrev pub invariant-turns : goal.invariant-turns
invariant-turns g l =
    let m = g.M.Drainable in
    record {
      scenario : m.scenario l.machine ≡ m.scenario l.fn.machine;
      made : Made (m.scenario l.fn.machine) (m.journal l.fn.machine) (m.journal l.machine);
      reaches : Reaches (m.scenario l.fn.machine) (m.journal l.fn.machine) (m.journal l.machine);
    }

-- each turn leaves less work
abbrev pub decreases-turns : goal.decreases-turns
decreases-turns g l =
    let m = g.M.Drainable in
    m.work (m.scenario l.machine) (m.journal l.machine)
