use Rattle.std.proofs.Common.{◌≡◌, ◌++◌, take}
use Rattle.am_lab_state.specs.Messages.{queue_named}
use Rattle.am_lab_state.proofs.named.name_queue.Given as goal

abbrev pub invariant-loop-queued : goal.invariant-loop-queued
invariant-loop-queued l = l.named.items ≡ l.fn.named.items ++ queue_named (take l.queued-index l.queue)
