use Rattle.am_places_stays.proofs.MomentsKept.{free_books_lie_there}
use Rattle.am_places_stays.proofs.moments.words.free_books_lie_there.Goals as goal

pub returns : goal.returns
returns g c = free_books_lie_there g.B.Book.items g.B.Book.birth g.B.Book.stands g.B.Book.moves
