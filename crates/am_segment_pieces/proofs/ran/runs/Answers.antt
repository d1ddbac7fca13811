use Rattle.std.proofs.Common.{sym, ◌∙◌}
use Rattle.am_segment_pieces.proofs.Counted.{tells_none_behind, tells_some_behind}
use Rattle.am_segment_pieces.proofs.ran.runs.Goals as goal
use Rattle.am_segment_pieces.proofs.ran.runs.Goals.{in-Some+in_ok-insert, in_default}

pub loop-entry-preserved : goal.loop-entry-preserved
loop-entry-preserved c = elim c.match-run_in.branch [
  | in-Some+in_ok-insert w ↦ rw w.set-is (tells_some_behind _ _ w.in-Some.run' _ _ _ c.loop-entry-test.true (sym c.run_in.ensures
      ∙ w.in-Some.is) w.in_ok-insert.ensures.updates.0 c.loop-entry.invariant)
  | in_default w ↦ rw w.set-is (tells_none_behind _ _ _ _ c.loop-entry-test.true (sym c.run_in.ensures ∙ w.in_default.is) c.loop-entry.invariant)
]
