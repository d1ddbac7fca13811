use Rattle.am_job.specs.Count.Counting.{CountsAll}
use Rattle.am_job.proofs.count.counting.count_rounds.Given as goal

abbrev pub invariant-loop-number : goal.invariant-loop-number
invariant-loop-number g l = CountsAll (g.R.Runner.is_run l.runner) l.w l.turns l.sent l.number l.tally
