use Rattle.std.proofs.Common.{ℕ, List, length, sym, subst}
use Rattle.am_lexer.specs.Text.{lines_of}
use Rattle.am_lab_reasons.specs.Journal.Lines.{AreLines}
use Rattle.am_lab_reasons.proofs.Again.{count_same, end_lines}
use Rattle.am_lab_reasons.proofs.journal.reaches.reach_end.Goals as goal

pub play-requires : goal.play-requires
play-requires c =
    record {
      fresh = c.requires.fresh;
      lines = end_lines c.args.cluster.now.layout c.args.bytes.now (lines_of c.in-Some.lines.now) c.in-Some.count c.requires.end c.in-Some.ensures.0
          c.in-Some.ensures.1;
    }

pub returns-in-Ok-clause-reached : goal.returns-in-Ok-clause-reached
returns-in-Ok-clause-reached c = λ journal left are is.
    (c.in-Ok.ensures.played journal left
    (subst (λ (ls : List (List ℕ)). AreLines c.args.cluster.now.layout ls journal left) (sym c.in-Some.ensures.1) are)
    (count_same c.args.bytes.now c.in-Some.count (length journal) c.in-Some.ensures.0 is)).0
