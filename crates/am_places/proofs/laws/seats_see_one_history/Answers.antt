use Rattle.am_places.proofs.Framing.{seats_see_one_history}
use Rattle.am_places.proofs.laws.seats_see_one_history.Goals as goal

pub returns : goal.returns
returns g c = seats_see_one_history g.B.Book.items g.B.Book.birth g.B.Book.stands g.B.Book.moves
