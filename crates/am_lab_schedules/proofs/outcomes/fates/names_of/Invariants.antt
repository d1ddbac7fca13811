use Rattle.std.proofs.Common.{map, take}
use Rattle.am_lab_schedules.specs.Distinct.Kept.{Keeps}
use Rattle.am_lab_schedules.specs.Outcomes.Outcomes.{name_of}
use Rattle.am_lab_schedules.proofs.outcomes.fates.names_of.Given as goal

abbrev pub invariant-loop-message : goal.invariant-loop-message
invariant-loop-message l = Keeps l.names (map name_of (take l.message-index l.messages))
