use Rattle.std.proofs.Common.{ℕ, List, [], take}
use Rattle.am_job.specs.Words.Counts.{IsTallyOf}
use Rattle.am_job.specs.Asked.{run_in_all}
use Rattle.am_job.proofs.counting.see_journals.Given as goal

abbrev pub invariant-loop-journal : goal.invariant-loop-journal
invariant-loop-journal l = (asked : List (List ℕ)) → IsTallyOf l.fn.tally asked [] → IsTallyOf l.tally asked (run_in_all (take l.journal-index l.journals))
