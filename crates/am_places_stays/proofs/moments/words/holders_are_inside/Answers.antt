use Rattle.am_places_stays.proofs.MomentsKept.{holders_have_seen_all, holders_say_they_hold, holders_are_seats}
use Rattle.am_places_stays.proofs.moments.words.holders_are_inside.Goals as goal

pub returns-clause-seen : goal.returns-clause-seen
returns-clause-seen g c = holders_have_seen_all g.B.Book.items g.B.Book.birth g.B.Book.stands g.B.Book.moves

pub returns-clause-say : goal.returns-clause-say
returns-clause-say g c = holders_say_they_hold g.B.Book.items g.B.Book.birth g.B.Book.stands g.B.Book.moves

pub returns-clause-are : goal.returns-clause-are
returns-clause-are g c = holders_are_seats g.B.Book.items g.B.Book.birth g.B.Book.stands g.B.Book.moves
