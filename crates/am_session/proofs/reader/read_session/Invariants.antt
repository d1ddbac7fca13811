use Rattle.std.proofs.Common.{◌≡◌, length}
use Rattle.am_lexer.specs.Text.{lines_of}
use Rattle.am_session.specs.Grammar.{read_from, grammar}
use Rattle.am_session.proofs.reader.read_session.Given as goal

abbrev pub invariant-loop-line : goal.invariant-loop-line
invariant-loop-line l = read_from l.number l.draft (lines_of l.rest) ≡ grammar l.bytes

abbrev pub decreases-loop-line : goal.decreases-loop-line
decreases-loop-line l = length l.rest
