use Rattle.am_lexer.specs.Text.{words_of}
use Rattle.am_segment.proofs.Sizes.{size_small}
use Rattle.am_segment.proofs.saying.take_size.Goals as goal

pub returns-clause-small : goal.returns-clause-small
returns-clause-small c = size_small (λ found. (found.0, words_of found.1.now)) c.take_u32.result (words_of c.args.rest.now) c.take_u32.ensures
