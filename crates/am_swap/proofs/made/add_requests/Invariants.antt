use Rattle.std.proofs.Common.{◌≡◌, take}
use Rattle.am_swap.proofs.Adding.{with_requests}
use Rattle.am_swap.proofs.made.add_requests.Given as goal

abbrev pub invariant-loop-queued : goal.invariant-loop-queued
invariant-loop-queued l = l.body ≡ with_requests l.initial.body (take l.queued-index l.queue)
