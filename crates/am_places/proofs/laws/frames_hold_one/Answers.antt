use Rattle.am_places.proofs.Framing.{frames_hold_one}
use Rattle.am_places.proofs.laws.frames_hold_one.Goals as goal

pub returns : goal.returns
returns g c = frames_hold_one g.B.Book.items g.B.Book.birth g.B.Book.stands g.B.Book.moves
