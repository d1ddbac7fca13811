use Rattle.std.proofs.Common.{◌≡◌, take}
use Rattle.am_lab_shiviz.specs.Clocks.{known}
use Rattle.am_lab_shiviz.proofs.knowledge.clocks.Given as goal

abbrev pub invariant-loop-happening : goal.invariant-loop-happening
invariant-loop-happening l = l.known ≡ known (take l.happening-index l.happenings)
