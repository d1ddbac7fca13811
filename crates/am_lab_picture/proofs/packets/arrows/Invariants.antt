use Rattle.std.proofs.Common.{◌≡◌, ◌+◌, ◌++◌, drop}
use Rattle.am_lab_picture.specs.Arrows.{arrow_shown}
use Rattle.am_lemmas.specs.Numbered.{numbered}
use Rattle.am_lab_picture.proofs.packets.arrows.Given as goal

abbrev pub invariant-loop-entry : goal.invariant-loop-entry
invariant-loop-entry l =
    record {
      line : l.line ≡ l.entry-index + 3;
      made : l.made.items ++ numbered (arrow_shown l.journal l.lines) l.line (drop l.entry-index l.entries) ≡ numbered (arrow_shown l.journal l.lines) 3
          l.entries;
    }
