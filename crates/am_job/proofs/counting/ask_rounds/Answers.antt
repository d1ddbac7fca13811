use Rattle.am_job.proofs.SentTexts.{all_asked, ask_round}
use Rattle.am_job.proofs.counting.ask_rounds.Goals as goal

pub loop-round-preserved : goal.loop-round-preserved
loop-round-preserved c = ask_round c.args.rounds.now c.loop-round.round-index c.round-item.result c.loop-round.tally c.ask_round.new.tally
    c.loop-round-test.true c.round-item.is c.in_ok-ask_round.ensures c.loop-round.invariant

pub returns : goal.returns
returns c = all_asked c.args.rounds.now c.loop-round.round-index c.loop-round.tally c.loop-round-test.false c.loop-round.invariant
