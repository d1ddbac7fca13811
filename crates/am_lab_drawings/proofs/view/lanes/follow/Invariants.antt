use Rattle.std.proofs.Common.{◌≡◌, ◌+◌, ◌++◌, map, take}
use Rattle.am_lab_drawings.specs.View.Standings.{tracked}
use Rattle.am_lab_drawings.proofs.view.lanes.follow.Given as goal

abbrev pub invariant-loop-entry : goal.invariant-loop-entry
invariant-loop-entry l =
    record {
      layout : l.cluster.layout ≡ l.fn.cluster.layout;
      journal : l.cluster.journal ≡ l.fn.cluster.journal ++ take l.entry-index l.entries;
      next : l.next ≡ l.fn.line + 1 + l.entry-index;
      tracks : l.tracks ≡ map (tracked l.fn.cluster.layout l.fn.line l.fn.cluster.journal (take l.entry-index l.entries)) l.fn.cluster.layout.ends;
    }
