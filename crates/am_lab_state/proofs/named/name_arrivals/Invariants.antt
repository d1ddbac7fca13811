use Rattle.std.proofs.Common.{◌≡◌, ◌++◌, take}
use Rattle.am_lab_state.specs.Messages.{arrivals_named}
use Rattle.am_lab_state.proofs.named.name_arrivals.Given as goal

abbrev pub invariant-loop-message : goal.invariant-loop-message
invariant-loop-message l = l.named.items ≡ l.fn.named.items ++ arrivals_named (take l.message-index l.received)
