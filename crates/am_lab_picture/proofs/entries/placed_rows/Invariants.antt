use Rattle.std.proofs.Common.{◌≡◌, ◌+◌, ◌++◌, drop}
use Rattle.am_lab_picture.specs.Rows.{row_in}
use Rattle.am_lemmas.specs.Numbered.{numbered}
use Rattle.am_lab_picture.proofs.entries.placed_rows.Given as goal

abbrev pub invariant-loop-entry : goal.invariant-loop-entry
invariant-loop-entry l =
    record {
      line : l.line ≡ l.fn.lines.first + l.entry-index;
      made : l.made.items ++ numbered (row_in l.journal) l.line (drop l.entry-index l.shown) ≡ numbered (row_in l.journal) l.fn.lines.first l.shown;
    }
