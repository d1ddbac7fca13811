use Rattle.std.proofs.Common.{◌≡◌, [], vec_len}
use Rattle.std.specs.List.{All}
use Rattle.am_machine_journal.proofs.index.links.no_packets.Given as goal

abbrev pub invariant-loop-i : goal.invariant-loop-i
invariant-loop-i l = record { len : vec_len l.links ≡ l.i; none : All (λ packets. packets.items ≡ []) l.links.items }
