use Rattle.std.specs.List.{list_any}
use Rattle.std.proofs.Common.{◌≡◌, drop}
use Rattle.am_lab_chart.specs.Known.{is_at}
use Rattle.am_lab_chart.proofs.known.is_at_some.Given as goal

abbrev pub invariant-loop-span : goal.invariant-loop-span
invariant-loop-span l = list_any (is_at l.key) (drop l.span-index l.spans) ≡ list_any (is_at l.key) l.spans
