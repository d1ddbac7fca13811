use Rattle.std.specs.Prelude.{slice_get}
use Rattle.std.proofs.Common.{◌≡◌, ℕ, ◌<◌, length, Some}
use Rattle.am_cluster_calls.specs.declared.threads.ThreadScript.{ThreadScript}
use Rattle.am_cluster_calls.proofs.threads.searched.Given as goal

abbrev pub invariant-loop-index : goal.invariant-loop-index
invariant-loop-index l =
    record {
      count : l.count ≡ length l.threads;
      others : (k : ℕ) (t : ThreadScript) → k < l.index → slice_get l.threads k ≡ Some t → t.id ≡ l.id → ⊥;
    }
