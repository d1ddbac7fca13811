use Rattle.am_library.proofs.Lawful.{echoes_are_words}
use Rattle.am_library.proofs.laws.echoes_are_words.Goals as goal

pub returns : goal.returns
returns c = echoes_are_words
