use Rattle.std.proofs.Common.{◌≡◌, take}
use Rattle.am_main_lines.specs.Lines.{ids_of}
use Rattle.am_main_lines.proofs.reports.ids_of.Given as goal

abbrev pub invariant-loop-end : goal.invariant-loop-end
invariant-loop-end l = l.ids.items ≡ ids_of (take l.end-index l.ends)
