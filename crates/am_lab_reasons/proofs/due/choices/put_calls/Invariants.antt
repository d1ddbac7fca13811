use Rattle.std.proofs.Common.{◌≡◌, ◌++◌, take}
use Rattle.std.specs.List.{flat_map}
use Rattle.am_lab_reasons.specs.Due.Choices.{next_call}
use Rattle.am_lab_reasons.proofs.due.choices.put_calls.Given as goal

abbrev pub invariant-loop-thread : goal.invariant-loop-thread
invariant-loop-thread l = l.out.items ≡ l.fn.out.items ++ flat_map (next_call l.run.scenario l.run.journal) (take l.thread-index l.threads)
