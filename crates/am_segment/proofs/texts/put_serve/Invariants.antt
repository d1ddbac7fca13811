use Rattle.std.proofs.Common.{◌≡◌, ◌++◌, replicate}
use Rattle.std.specs.List.{flat_map}
use Rattle.am_segment.specs.Laid.{closed}
use Rattle.am_segment.specs.Texts.{poll_line}
use Rattle.am_segment.proofs.texts.put_serve.Given as goal

abbrev pub invariant-loop : goal.invariant-loop
invariant-loop l = l.out.items ≡ l.fn.out.items ++ flat_map closed (replicate l.counter (poll_line l.thread l.served.end))
