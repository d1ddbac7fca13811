use Rattle.std.specs.List.{list_any}
use Rattle.std.proofs.Common.{◌≡◌, drop}
use Rattle.am_lab_chart.specs.Known.{is_in_cross}
use Rattle.am_lab_chart.proofs.known.is_in_crosses.Given as goal

abbrev pub invariant-loop-cross : goal.invariant-loop-cross
invariant-loop-cross l = list_any (is_in_cross l.key) (drop l.cross-index l.crosses) ≡ list_any (is_in_cross l.key) l.crosses
