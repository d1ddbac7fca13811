use Rattle.std.proofs.Common.{map, take}
use Rattle.am_lab_schedules.specs.Distinct.Kept.{Keeps}
use Rattle.am_lab_schedules.specs.Outcomes.Outcomes.{told_fate}
use Rattle.am_lab_schedules.proofs.outcomes.fates.told_fates.Given as goal

abbrev pub invariant-loop-message : goal.invariant-loop-message
invariant-loop-message l = Keeps l.told (map told_fate (take l.message-index l.messages))
