use Rattle.std.proofs.Common.{ℕ, List, []}
use Rattle.am_job.specs.Words.Counts.{IsTallyOf}
use Rattle.am_job.proofs.SentTexts.{all_seen, see_round}
use Rattle.am_job.proofs.counting.see_journals.Goals as goal

pub loop-journal-init : goal.loop-journal-init
loop-journal-init c = λ (asked : List (List ℕ)) (tells : IsTallyOf c.args.tally.now asked []). tells

pub loop-journal-preserved : goal.loop-journal-preserved
loop-journal-preserved c = λ (asked : List (List ℕ)) (tells : IsTallyOf c.args.tally.now asked []).
    see_round asked c.args.journals.now c.loop-journal.journal-index c.journal-item.result c.loop-journal.tally c.see_journal.new.self c.loop-journal-test.true
    c.journal-item.is c.in_ok-see_journal.ensures (c.loop-journal.invariant asked tells)

pub returns : goal.returns
returns c = λ (asked : List (List ℕ)) (tells : IsTallyOf c.args.tally.now asked []).
    all_seen asked c.args.journals.now c.loop-journal.journal-index c.loop-journal.tally c.loop-journal-test.false (c.loop-journal.invariant asked tells)
