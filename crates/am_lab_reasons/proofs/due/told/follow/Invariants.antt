use Rattle.std.proofs.Common.{◌≡◌}
use Rattle.am_model_scripts.specs.Layout.{layout_of}
use Rattle.am_lab_reasons.proofs.Following.{IsHalfway}
use Rattle.am_lab_reasons.proofs.due.told.follow.Given as goal

abbrev pub invariant-loop-entry : goal.invariant-loop-entry
invariant-loop-entry l =
    record {
      scenario : l.run.scenario ≡ l.fn.run.scenario;
      halfway : IsHalfway (layout_of l.fn.run.scenario) l.entries l.entry-index l.run.journal;
    }
