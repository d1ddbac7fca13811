use Rattle.std.proofs.Common.{◌≡◌, ◌≤◌, ◌+◌, ◌++◌, length, reverse, vec_capacity, vec_len}
use Rattle.am_machine.specs.Node.Parts.{parts_of}
use Rattle.am_machine.proofs.node.assembling.assemble.Given as goal

abbrev pub invariant-loop-shell : goal.invariant-loop-shell
invariant-loop-shell l =
    record {
      made : parts_of l.shells.items l.interfaces.items l.swaps.items ++ reverse l.parts.items ≡ parts_of l.fn.shells.items l.fn.interfaces.items
          l.fn.swaps.items;
      interfaces' : length l.interfaces.items ≡ length l.shells.items;
      swaps' : length l.swaps.items ≡ length l.shells.items;
      room : length l.shells.items + vec_len l.parts ≤ vec_capacity l.parts;
    }

abbrev pub decreases-loop-shell : goal.decreases-loop-shell
decreases-loop-shell l = length l.shells.items
