use Rattle.std.proofs.Common.{◌≡◌, ◌++◌, replicate}
use Rattle.am_segment.proofs.texts.put_origins.Given as goal

abbrev pub invariant-loop : goal.invariant-loop
invariant-loop l = l.origin.items ≡ l.fn.origin.items ++ replicate l.counter l.number
