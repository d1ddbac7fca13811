use Rattle.std.proofs.Common.{ℕ, ◌<◌, ◌≤◌, length}
use Rattle.std.specs.Prelude.{slice_index_or}
use Rattle.am_endpoint.specs.View.{EndpointView}
use Rattle.am_machine.proofs.parts.short_logs.Given as goal

abbrev pub invariant-loop-end : goal.invariant-loop-end
invariant-loop-end l =
    (k : ℕ) (d : EndpointView) → k < l.end-index → length (slice_index_or l.ends k d).log ≤ (slice_index_or l.ends k d).settings.log
