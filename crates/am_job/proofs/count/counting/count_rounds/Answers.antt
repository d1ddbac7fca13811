use Rattle.std.proofs.Common.{subst, sym}
use Rattle.am_job.specs.Words.Counts.{Counted}
use Rattle.am_job.specs.Count.Counting.{CountsAll}
use Rattle.am_job.proofs.Counted.{counts_more, counts_none}
use Rattle.am_job.proofs.count.counting.count_rounds.Goals as goal

pub loop-number-init : goal.loop-number-init
loop-number-init g c = subst (λ (counted : Counted). CountsAll (g.R.Runner.is_run c.args.runner.now) c.args.w c.args.turns c.args.sent.now 0 counted)
    (sym c.new-tally.ensures) (counts_none (g.R.Runner.is_run c.args.runner.now) c.args.w c.args.turns c.args.sent.now)

pub loop-number-preserved : goal.loop-number-preserved
loop-number-preserved g c =
    counts_more (g.R.Runner.is_run c.args.runner.now) c.args.w c.args.turns c.args.sent.now c.loop-number.number c.in_ok-scenario.scenario c.loop-number.tally
    c.count_round.new.tally
    (λ journal run. g.met.R.Runner.adds_up c.args.runner.now c.args.w c.args.turns _ journal c.requires.some c.requires.nodes run)
    c.in_ok-scenario.ensures.exact c.in_ok-count_round.ensures.counted c.loop-number.invariant
