use Rattle.am_places_stays.proofs.Marks.{seats_differ, marks_are_few, none_before_it_is_made, gathered_seats_are_gone}
use Rattle.am_places_stays.proofs.moments.seats.marks_are_seats.Goals as goal

pub returns-clause-differ : goal.returns-clause-differ
returns-clause-differ g c = seats_differ g.B.Book.items g.B.Book.birth g.B.Book.stands g.B.Book.moves

pub returns-clause-few : goal.returns-clause-few
returns-clause-few g c = marks_are_few g.B.Book.items g.B.Book.birth g.B.Book.stands g.B.Book.moves

pub returns-clause-before : goal.returns-clause-before
returns-clause-before g c = none_before_it_is_made g.B.Book.items g.B.Book.birth g.B.Book.stands g.B.Book.moves

pub returns-clause-gone : goal.returns-clause-gone
returns-clause-gone g c = gathered_seats_are_gone g.B.Book.items g.B.Book.birth g.B.Book.stands g.B.Book.moves
