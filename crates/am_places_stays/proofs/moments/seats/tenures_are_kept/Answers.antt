use Rattle.am_places_stays.proofs.Marks.{keepers_have_the_tenures, others_have_none}
use Rattle.am_places_stays.proofs.moments.seats.tenures_are_kept.Goals as goal

pub returns-clause-keepers : goal.returns-clause-keepers
returns-clause-keepers g c = keepers_have_the_tenures g.B.Book.items g.B.Book.birth g.B.Book.stands g.B.Book.moves

pub returns-clause-others : goal.returns-clause-others
returns-clause-others g c = others_have_none g.B.Book.items g.B.Book.birth g.B.Book.stands g.B.Book.moves
