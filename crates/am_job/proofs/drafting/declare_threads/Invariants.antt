use Rattle.std.proofs.Common.{◌≡◌}
use Rattle.am_job.proofs.Ready.{with_threads}
use Rattle.am_job.proofs.drafting.declare_threads.Given as goal

abbrev pub invariant-loop-node : goal.invariant-loop-node
invariant-loop-node l = l.draft ≡ with_threads l.initial.draft l.node
