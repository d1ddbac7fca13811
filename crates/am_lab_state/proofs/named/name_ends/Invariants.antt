use Rattle.std.proofs.Common.{◌≡◌, ◌++◌, take}
use Rattle.std.specs.List.{flat_map}
use Rattle.am_lab_state.specs.Messages.{named_at}
use Rattle.am_lab_state.proofs.named.name_ends.Given as goal

abbrev pub invariant-loop-line : goal.invariant-loop-line
invariant-loop-line l = l.named.items ≡ l.fn.named.items ++ flat_map (named_at l.scenario l.cluster.journal) (take l.line-index l.ends)
