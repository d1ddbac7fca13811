use Rattle.std.proofs.Common.{◌≡◌}
use Rattle.am_library_drafts.specs.Drafts.{with_calls}
use Rattle.am_job.specs.Scripts.{maps_below}
use Rattle.am_job.proofs.script.map_all.Given as goal

abbrev pub invariant-loop-k : goal.invariant-loop-k
invariant-loop-k l = l.draft ≡ with_calls l.initial.draft (maps_below l.n l.k)
