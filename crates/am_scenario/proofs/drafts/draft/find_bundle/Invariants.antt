use Rattle.std.proofs.Common.{◌≡◌, length}
use Rattle.std.specs.Prelude.{◌==◌, find}
use Rattle.am_scenario.proofs.drafts.draft.find_bundle.Given as goal

abbrev pub invariant-loop-first : goal.invariant-loop-first
invariant-loop-first l = find (λ bundle. bundle.id == l.id) l.rest ≡ find (λ bundle. bundle.id == l.id) l.bundles

abbrev pub decreases-loop-first : goal.decreases-loop-first
decreases-loop-first l = length l.rest
