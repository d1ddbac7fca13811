use Rattle.std.proofs.Common.{◌≡◌, ◌++◌, map, take}
use Rattle.am_lab_reasons.specs.Refusals.Refusals.{shown}
use Rattle.am_lab_reasons.proofs.refusals.refusals.put_shown.Given as goal

abbrev pub invariant-loop-byte : goal.invariant-loop-byte
invariant-loop-byte l = l.out.items ≡ l.fn.out.items ++ map shown (take l.byte-index l.line)
