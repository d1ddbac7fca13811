use Rattle.std.proofs.Common.{◌≡◌}
use Rattle.am_scenario.specs.Drafts.Drafts.{said}
use Rattle.am_scenario.specs.Grammar.{threads_below}
use Rattle.am_scenario.proofs.finish.threads_below.Given as goal

abbrev pub invariant-loop-id : goal.invariant-loop-id
invariant-loop-id l = l.threads.items ≡ threads_below (said l.draft) l.id
