use Rattle.am_lemmas.proofs.Lists.{rest_is}
use Rattle.am_lexer.proofs.ShortNumbers.{behind_space}
use Rattle.am_lexer.proofs.short.short_number.Goals as goal

pub returns-then-rest-eq32 : goal.returns-then-rest-eq32
returns-then-rest-eq32 c =
    let read = simp rest_is at c.leading_number.ensures in
    simp (behind_space c.args.rest.now c.if-rest-eq32.true) read
