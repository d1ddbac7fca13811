use Rattle.std.proofs.Common.{◌≡◌, ◌++◌, take}
use Rattle.std.specs.List.{flat_map}
use Rattle.am_lab_state.specs.Ends.{queued_line}
use Rattle.am_lab_state.proofs.messages.put_queue.Given as goal

abbrev pub invariant-loop-queued : goal.invariant-loop-queued
invariant-loop-queued l = l.out.items ≡ l.fn.out.items ++ flat_map (queued_line l.end) (take l.queued-index l.queue)
