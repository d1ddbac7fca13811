use Rattle.std.proofs.Common.{◌≡◌}
use Rattle.am_library_drafts.specs.Drafts.{with_calls}
use Rattle.am_job.specs.Scripts.{polls}
use Rattle.am_job.proofs.script.poll_often.Given as goal

abbrev pub invariant-loop-poll : goal.invariant-loop-poll
invariant-loop-poll l = l.draft ≡ with_calls l.initial.draft (polls l.n l._poll)
