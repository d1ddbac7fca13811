use Rattle.am_scenario.proofs.Keywords.{AgreeBelow}
use Rattle.am_scenario.proofs.lines.keyword.is_word.Given as goal

abbrev pub invariant-loop-i : goal.invariant-loop-i
invariant-loop-i l = AgreeBelow l.i l.word l.keyword
