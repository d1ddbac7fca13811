use Rattle.am_places.proofs.Framing.{frame_words_are_claims}
use Rattle.am_places.proofs.laws.frame_words_are_claims.Goals as goal

pub returns : goal.returns
returns g c = frame_words_are_claims g.B.Book.items g.B.Book.birth g.B.Book.stands g.B.Book.moves
