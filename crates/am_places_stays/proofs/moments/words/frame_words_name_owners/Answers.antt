use Rattle.am_places_stays.proofs.MomentsKept.{frame_words_fit_places, frame_words_name_owners}
use Rattle.am_places_stays.proofs.moments.words.frame_words_name_owners.Goals as goal

pub returns-clause-places : goal.returns-clause-places
returns-clause-places g c = frame_words_fit_places g.B.Book.items g.B.Book.birth g.B.Book.stands g.B.Book.moves

pub returns-clause-owners : goal.returns-clause-owners
returns-clause-owners g c = frame_words_name_owners g.B.Book.items g.B.Book.birth g.B.Book.stands g.B.Book.moves
