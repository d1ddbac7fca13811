use Rattle.std.proofs.Common.{ap, ◌∙◌, length}
use Rattle.std.proofs.lemmas.List.{length-replicate}
use Rattle.am_places_stays.proofs.Staying.{is_new}
use Rattle.am_places_stays.proofs.opening.open.Goals as goal

pub returns-clause-seats : goal.returns-clause-seats
returns-clause-seats g c k s at =
    let t = c.in_ok-places.ensures.seats.1 k s at in
    is_new g.B.Book.items g.B.Book.birth g.B.Book.stands g.B.Book.moves c.args.books.items c.args.ids.items k c.args.seats c.args.frames _ s.token t.0
    (ap (λ m. length m.0.frames) t.2 ∙ length-replicate c.args.frames 0) t.2
