use Rattle.std.proofs.Common.{◌≡◌, ℕ, List, length}
use Rattle.am_lexer.specs.Text.{lines_of}
use Rattle.am_office_entries.specs.declared.Entry.{Entry}
use Rattle.am_lab_reasons.specs.Journal.Lines.{AreLines}
use Rattle.am_lab_reasons.proofs.Again.{IsLeft}
use Rattle.am_lab_reasons.proofs.journal.plays.play.Given as goal

abbrev pub invariant-loop-place : goal.invariant-loop-place
invariant-loop-place l =
    record {
      layout : l.cluster.layout ≡ l.fn.cluster.layout;
      left : (journal : List Entry) (left : List (List ℕ)) → AreLines l.fn.cluster.layout (lines_of l.lines) journal left → length journal ≡ l.count →
          IsLeft l.fn.cluster.layout journal left l.count l.place l.cluster.journal (lines_of l.rest);
    }
