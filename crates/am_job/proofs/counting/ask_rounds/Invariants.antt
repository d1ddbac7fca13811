use Rattle.std.proofs.Common.{[], take}
use Rattle.am_job.specs.Words.Counts.{IsTallyOf}
use Rattle.am_job.specs.Asked.{asked_in_all}
use Rattle.am_job.proofs.counting.ask_rounds.Given as goal

abbrev pub invariant-loop-round : goal.invariant-loop-round
invariant-loop-round l = IsTallyOf l.tally (asked_in_all (take l.round-index l.rounds)) []
