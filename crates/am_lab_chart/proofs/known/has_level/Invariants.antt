use Rattle.std.specs.List.{list_any}
use Rattle.std.proofs.Common.{◌≡◌, drop}
use Rattle.am_lab_chart.specs.Known.{is_some_level}
use Rattle.am_lab_chart.proofs.known.has_level.Given as goal

abbrev pub invariant-loop-span : goal.invariant-loop-span
invariant-loop-span l = list_any is_some_level (drop l.span-index l.spans) ≡ list_any is_some_level l.spans
