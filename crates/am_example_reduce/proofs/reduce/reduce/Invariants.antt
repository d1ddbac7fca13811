use Rattle.am_example_reduce.specs.Sums.{IsAfter}
use Rattle.am_example_reduce.proofs.reduce.reduce.Given as goal

abbrev pub invariant-loop-round : goal.invariant-loop-round
invariant-loop-round g l = IsAfter l.plan l.numbers l._round l.summed
