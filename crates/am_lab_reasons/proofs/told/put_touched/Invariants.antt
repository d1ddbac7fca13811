use Rattle.std.proofs.Common.{◌≡◌, ◌+◌, ◌++◌, drop}
use Rattle.am_lemmas.specs.Numbered.{numbered}
use Rattle.am_lab_reasons.specs.Reasons.{touching_lines}
use Rattle.am_lab_reasons.proofs.told.put_touched.Given as goal

abbrev pub invariant-loop-entry : goal.invariant-loop-entry
invariant-loop-entry l =
    record {
      line : l.line ≡ l.entry-index + 3;
      out : l.out.items ++ numbered (touching_lines l.plan l.journal l.serial) l.line (drop l.entry-index l.entries) ≡ l.fn.out.items ++ numbered
          (touching_lines l.plan l.journal l.serial) 3 l.entries;
    }
