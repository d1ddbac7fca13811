use Rattle.std.proofs.Common.{◌≡◌, true, length}
use Rattle.std.specs.List.{list_all}
use Rattle.am_lexer.specs.Text.{lines_of, is_text_line}
use Rattle.am_scenario.specs.Drafts.Drafts.{said}
use Rattle.am_scenario.specs.Grammar.{read_from, grammar}
use Rattle.am_scenario.proofs.reader.read.Given as goal

abbrev pub invariant-loop-line : goal.invariant-loop-line
invariant-loop-line l = record {
  said : read_from l.form l.number (said l.draft) (lines_of l.rest) ≡ grammar l.form l.bytes;
  text : l.printable ≡ true → list_all is_text_line (lines_of l.rest) ≡ true;
}

abbrev pub decreases-loop-line : goal.decreases-loop-line
decreases-loop-line l = length l.rest
