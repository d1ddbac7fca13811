use Rattle.std.proofs.Common.{refl}
use Rattle.am_lab_scenarios.specs.Spelling.Texts.{thread_line}
use Rattle.am_lab_scenarios.proofs.Each.{line_more}
use Rattle.am_lab_scenarios.proofs.spelling.texts.put_threads.Goals as goal

pub loop-thread-preserved : goal.loop-thread-preserved
loop-thread-preserved c =
    line_more thread_line _ c.loop-thread.thread-index _ _ _ _ _ c.loop-thread-test.true refl c.loop-thread.invariant c.in_ok-put_thread_line.ensures
