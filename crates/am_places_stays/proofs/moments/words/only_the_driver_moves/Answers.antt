use Rattle.am_places_stays.proofs.MomentsKept.{only_the_driver_moves}
use Rattle.am_places_stays.proofs.moments.words.only_the_driver_moves.Goals as goal

pub returns : goal.returns
returns g c = only_the_driver_moves g.B.Book.items g.B.Book.birth g.B.Book.stands g.B.Book.moves
