use Rattle.std.proofs.Common.{◌≡◌}
use Rattle.am_job.proofs.Ready.{with_ends}
use Rattle.am_job.proofs.drafting.declare_ends.Given as goal

abbrev pub invariant-loop-id : goal.invariant-loop-id
invariant-loop-id l = l.draft ≡ with_ends l.initial.draft l.id
