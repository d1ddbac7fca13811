use Rattle.std.proofs.Common.{ℕ, List, sym, subst, arith}
use Rattle.am_lexer.specs.Text.{lines_of}
use Rattle.am_lab_reasons.specs.Journal.Lines.{AreLines, HasLines}
use Rattle.am_lab_reasons.proofs.Again.{place_lines}
use Rattle.am_lab_reasons.proofs.journal.reaches.reach.Goals as goal

pub play-requires : goal.play-requires
play-requires c =
    record {
      fresh = c.requires.fresh;
      lines = subst (λ (n : ℕ). HasLines c.args.cluster.now.layout (lines_of c.in-Some.lines.now) n) (sym c.from.ensures)
          (place_lines c.args.cluster.now.layout c.args.bytes.now (lines_of c.in-Some.lines.now) c.args.line c.requires.place c.in-Some.ensures.1);
    }

pub returns-clause-reached : goal.returns-clause-reached
returns-clause-reached c = λ journal left are is.
    c.play.ensures.played journal left
    (subst (λ (ls : List (List ℕ)). AreLines c.args.cluster.now.layout ls journal left) (sym c.in-Some.ensures.1) are)
    (omega (arith, is))
