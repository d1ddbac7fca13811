use Rattle.std.proofs.Common.{◌≡◌}
use Rattle.am_library_drafts.specs.Drafts.{with_calls}
use Rattle.am_job.specs.Scripts.{openings_below}
use Rattle.am_job.proofs.script.begin_all.Given as goal

abbrev pub invariant-loop-n : goal.invariant-loop-n
invariant-loop-n l = l.draft ≡ with_calls l.initial.draft (openings_below l.w l.n)
