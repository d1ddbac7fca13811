use Rattle.am_places_stays.proofs.Kept.{new_seats_see_their_own, enters_see_their_own, leaves_see_their_own, gathers_see_their_own}
use Rattle.am_places_stays.proofs.moments.own.own_tenures_are_seen.Goals as goal

pub returns-clause-first : goal.returns-clause-first
returns-clause-first g c = new_seats_see_their_own g.B.Book.items g.B.Book.birth g.B.Book.stands g.B.Book.moves

pub returns-clause-enters : goal.returns-clause-enters
returns-clause-enters g c = enters_see_their_own g.B.Book.items g.B.Book.birth g.B.Book.stands g.B.Book.moves

pub returns-clause-leaves : goal.returns-clause-leaves
returns-clause-leaves g c = leaves_see_their_own g.B.Book.items g.B.Book.birth g.B.Book.stands g.B.Book.moves

pub returns-clause-gathers : goal.returns-clause-gathers
returns-clause-gathers g c = gathers_see_their_own g.B.Book.items g.B.Book.birth g.B.Book.stands g.B.Book.moves
