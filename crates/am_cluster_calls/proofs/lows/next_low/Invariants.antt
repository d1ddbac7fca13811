use Rattle.std.specs.Prelude.{slice_get}
use Rattle.std.proofs.Common.{◌≡◌, ℕ, ◌<◌, ◌≤◌, false, map, length, Some}
use Rattle.am_cluster_calls.specs.Lows.{is_low}
use Rattle.am_cluster_calls.specs.Threads.{Scripted, scripted_in}
use Rattle.am_cluster_calls.proofs.lows.next_low.Given as goal

abbrev pub invariant-loop-index : goal.invariant-loop-index
invariant-loop-index l =
    record {
      count : l.count ≡ length l.threads;
      behind : l.mark.from ≤ l.index;
      least : (k : ℕ) (t : Scripted) → l.mark.from ≤ k → k < l.index → slice_get (map scripted_in l.threads) k ≡ Some t → is_low l.mark.made t ≡ false;
    }
