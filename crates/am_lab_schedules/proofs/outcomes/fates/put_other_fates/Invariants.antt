use Rattle.std.proofs.Common.{◌≡◌, ◌++◌, take}
use Rattle.std.specs.List.{flat_map}
use Rattle.am_lab_schedules.specs.Outcomes.Outcomes.{other_fate}
use Rattle.am_lab_schedules.proofs.outcomes.fates.put_other_fates.Given as goal

abbrev pub invariant-loop-message : goal.invariant-loop-message
invariant-loop-message l = l.out.items ≡ l.fn.out.items ++ flat_map (other_fate l.first.messages.items) (take l.message-index l.messages)
