use Rattle.std.proofs.Common.{◌∙◌, subst, sym}
use Rattle.am_bit_set.specs.declared.BitSet.{BitSet}
use Rattle.am_cluster_drainer.specs.Firsts.{has_bound, has_due}
use Rattle.am_cluster_scripted.specs.PairMarks.{IsPairAgain}
use Rattle.am_cluster_scripted.proofs.pair_marks.mark_both.Goals as goal

pub returns : goal.returns
returns c =
    let s = c.args.scenario.now in
    let past = c.args.cluster.now.journal in
    let pair = c.args.pair in
    record {
      middle = c.mark_due.new.marks.due;
      here = c.mark_due.ensures.due;
      there = subst (λ (m : BitSet). IsPairAgain (has_due s past) pair.peer pair.node c.mark_due.new.marks.due m) (sym c.mark_bound.ensures.due)
          c.mark_due-2.ensures.due;
      bound = subst (λ (m : BitSet). IsPairAgain (has_bound s past) pair.node pair.peer m c.mark_bound.new.marks.bound) (c.mark_due-2.ensures.bound
          ∙ c.mark_due.ensures.bound) c.mark_bound.ensures.bound;
    }
