use Rattle.std.proofs.Common.{◌++◌, ap, refl, ◌∙◌}
use Rattle.am_office_entries.specs.declared.Event.{Event}
use Rattle.am_lab_scenarios.specs.Spelling.Replays.{replay_line}
use Rattle.am_lab_scenarios.specs.Spelling.Texts.{event_line}
use Rattle.am_lab_scenarios.proofs.Each.{line_more}
use Rattle.am_lab_scenarios.proofs.spelling.replay.put_journal.Goals as goal

pub loop-entry-preserved : goal.loop-entry-preserved
loop-entry-preserved c =
    line_more replay_line _ c.loop-entry.entry-index _ _ _ _ _ c.loop-entry-test.true refl c.loop-entry.invariant
    (c.in_ok-put_event_line.ensures ∙ ap (λ (e : Event). c.loop-entry.out.items ++ event_line e) c.by_anyone.ensures)
