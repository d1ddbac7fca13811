use Rattle.std.proofs.Common.{◌≡◌, ◌++◌, take}
use Rattle.std.specs.List.{flat_map}
use Rattle.am_lab_scenarios.specs.Spelling.Replays.{replay_line}
use Rattle.am_lab_scenarios.proofs.spelling.replay.put_journal.Given as goal

abbrev pub invariant-loop-entry : goal.invariant-loop-entry
invariant-loop-entry l = l.out.items ≡ l.fn.out.items ++ flat_map replay_line (take l.entry-index l.journal)
