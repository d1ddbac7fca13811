use Rattle.std.proofs.Common.{◌≤◌, length, vec_capacity}
use Rattle.am_machine.proofs.Gatherers.{AreGathering}
use Rattle.am_machine.proofs.node.gathering.gather.Given as goal

abbrev pub invariant-loop-line : goal.invariant-loop-line
invariant-loop-line l =
    record {
      gathering : AreGathering l.lines l.line-index l.fn.groups.items l.groups.items l.ends.items;
      room : length l.lines ≤ vec_capacity l.ends;
    }
