use Rattle.std.proofs.Common.{◌≡◌, take}
use Rattle.am_swap.proofs.Adding.{with_received}
use Rattle.am_swap.proofs.made.add_received.Given as goal

abbrev pub invariant-loop-message : goal.invariant-loop-message
invariant-loop-message l = l.body ≡ with_received l.initial.body (take l.message-index l.received)
