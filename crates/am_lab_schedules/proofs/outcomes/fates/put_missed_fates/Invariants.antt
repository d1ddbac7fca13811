use Rattle.std.proofs.Common.{◌≡◌, ◌++◌, take}
use Rattle.std.specs.List.{flat_map}
use Rattle.am_lab_schedules.specs.Outcomes.Outcomes.{missed_in}
use Rattle.am_lab_schedules.proofs.outcomes.fates.put_missed_fates.Given as goal

abbrev pub invariant-loop-message : goal.invariant-loop-message
invariant-loop-message l = l.out.items ≡ l.fn.out.items ++ flat_map (missed_in l.messages) (take l.message-index l.first.messages.items)
