use Rattle.std.proofs.Common.{◌≡◌, ℕ, ◌<◌, false}
use Rattle.am_model.specs.History.{channel_to, is_bound}
use Rattle.am_cluster_scripted.proofs.pair_marks.has_some_bound.Given as goal

abbrev pub invariant-channels : goal.invariant-channels
invariant-channels l = (k : ℕ) → k < l.channel → is_bound (channel_to l.node l.peer k) l.cluster.journal ≡ false
