use Rattle.std.proofs.Common.{◌<◌}
use Rattle.am_lexer.proofs.ShortNumbers.{Spells}
use Rattle.am_lexer.proofs.short.leading_number.Given as goal

abbrev pub invariant-loop-i : goal.invariant-loop-i
invariant-loop-i l = record { small : l.number < 10_000_000_000_000_000_000; spelled : Spells l.text l.i l.number }
