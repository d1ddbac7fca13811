use Rattle.std.specs.List.{list_any}
use Rattle.std.proofs.Common.{◌≡◌, drop}
use Rattle.am_lab_chart.specs.Known.{is_in_arrow}
use Rattle.am_lab_chart.proofs.known.is_in_arrows.Given as goal

abbrev pub invariant-loop-arrow : goal.invariant-loop-arrow
invariant-loop-arrow l = list_any (is_in_arrow l.key) (drop l.arrow-index l.arrows) ≡ list_any (is_in_arrow l.key) l.arrows
