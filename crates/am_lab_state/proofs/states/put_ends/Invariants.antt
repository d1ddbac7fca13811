use Rattle.std.proofs.Common.{◌≡◌, ◌++◌, take}
use Rattle.std.specs.List.{flat_map}
use Rattle.am_lab_state.specs.Texts.{declared_lines}
use Rattle.am_lab_state.proofs.states.put_ends.Given as goal

abbrev pub invariant-loop-end : goal.invariant-loop-end
invariant-loop-end l = l.out.items ≡ l.fn.out.items ++ flat_map (declared_lines l.scenario l.cluster.journal) (take l.end-index l.ends)
