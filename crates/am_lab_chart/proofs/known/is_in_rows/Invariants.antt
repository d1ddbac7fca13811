use Rattle.std.specs.List.{list_any}
use Rattle.std.proofs.Common.{◌≡◌, drop}
use Rattle.am_lab_chart.specs.Known.{is_in_placed}
use Rattle.am_lab_chart.proofs.known.is_in_rows.Given as goal

abbrev pub invariant-loop-placed : goal.invariant-loop-placed
invariant-loop-placed l = list_any (is_in_placed l.key) (drop l.placed-index l.rows) ≡ list_any (is_in_placed l.key) l.rows
