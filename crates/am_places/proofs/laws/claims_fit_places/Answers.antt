use Rattle.am_places.proofs.Framing.{claims_fit_places}
use Rattle.am_places.proofs.laws.claims_fit_places.Goals as goal

pub returns : goal.returns
returns g c = claims_fit_places g.B.Book.items g.B.Book.birth g.B.Book.stands g.B.Book.moves
