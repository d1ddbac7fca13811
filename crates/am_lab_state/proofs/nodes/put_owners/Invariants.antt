use Rattle.std.proofs.Common.{◌≡◌, ◌++◌, take}
use Rattle.std.specs.List.{flat_map}
use Rattle.am_lab_state.specs.Nodes.{owner_line}
use Rattle.am_lab_state.proofs.nodes.put_owners.Given as goal

abbrev pub invariant-loop-line : goal.invariant-loop-line
invariant-loop-line l =
    l.out.items ≡ l.fn.out.items ++ flat_map (owner_line l.scenario l.cluster.journal l.node l.frame) (take l.line-index l.ends)
