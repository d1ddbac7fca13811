use Rattle.am_cluster_scripted.proofs.PairMarked.{ArePairedTo}
use Rattle.am_cluster_scripted.proofs.pair_marks.all_pairs.Given as goal

abbrev pub invariant-loop-place : goal.invariant-loop-place
invariant-loop-place l = ArePairedTo l.scenario l.cluster.journal l.place l.marks
