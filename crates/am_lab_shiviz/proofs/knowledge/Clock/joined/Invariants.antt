use Rattle.std.proofs.Common.{◌≡◌, ◌++◌, drop, length, take}
use Rattle.am_lab_shiviz.specs.Clocks.{greater_counts}
use Rattle.am_lab_shiviz.proofs.knowledge.Clock.joined.Given as goal

abbrev pub invariant-loop-node : goal.invariant-loop-node
invariant-loop-node l =
    record {
      size : length l.counts ≡ 16;
      counts : take l.node l.counts ++ greater_counts (drop l.node l.counts) (drop l.node l.fn.other.counts) ≡ greater_counts l.fn.self.counts
          l.fn.other.counts;
    }
