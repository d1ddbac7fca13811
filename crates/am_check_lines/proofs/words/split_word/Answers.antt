use Rattle.std.proofs.Common.{Some, None, sym, ◌∙◌}
use Rattle.am_lemmas.proofs.Lists.{rest_is}
use Rattle.am_check_lines.proofs.Cuts.{word_is}
use Rattle.am_check_lines.proofs.words.split_word.Goals as goal

pub returns-in-Some : goal.returns-in-Some
returns-in-Some c = simp rest_is (word_is c.args.text.now (Some c.in-Some.end) (sym c.in-Some.is ∙ c.first_space.ensures))

pub returns-in-None : goal.returns-in-None
returns-in-None c = word_is c.args.text.now None (sym c.in-None.is ∙ c.first_space.ensures)
