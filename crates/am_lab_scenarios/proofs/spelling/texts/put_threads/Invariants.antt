use Rattle.std.proofs.Common.{◌≡◌, ◌++◌, take}
use Rattle.std.specs.List.{flat_map}
use Rattle.am_lab_scenarios.specs.Spelling.Texts.{thread_line}
use Rattle.am_lab_scenarios.proofs.spelling.texts.put_threads.Given as goal

abbrev pub invariant-loop-thread : goal.invariant-loop-thread
invariant-loop-thread l = l.out.items ≡ l.fn.out.items ++ flat_map thread_line (take l.thread-index l.threads)
