use Rattle.std.proofs.Common.{ap, ◌∙◌, sym, subst, [], ◌∷◌, ◌++◌}
use Rattle.std.specs.Prelude.{if◌then◌else◌}
use Rattle.am_places_stays.specs.Stays.{IsInside}
use Rattle.am_places_stays.proofs.Staying.{adds, one_calm}
use Rattle.am_places_stays.proofs.writing.write.Goals as goal

pub leave-requires-clause-inside : goal.leave-requires-clause-inside
leave-requires-clause-inside g c κs within =
    let items = g.B.Book.items in
    let birth = g.B.Book.birth in
    let stands = g.B.Book.stands in
    let moves = g.B.Book.moves in
    let id = c.args.places.now.board.shared.table_id in
    let stay = c.in-Ok.ensures.stay in
    let same = c.book_mut.ensures.value in
    adds items birth stands moves id c.in-Ok.entered.at c.enter.new.seat.token c.in-Ok.entered.book c.add-done.new.self
    (if c.add-done.result then c.args.item ∷ [] else [])
    (c.add-done.ensures.birth ∙ ap birth same)
    (c.add-done.ensures.place ∙ ap stands same)
    (c.add-done.ensures.added ∙ ap (λ b. items b ++ (if c.add-done.result then c.args.item ∷ [] else [])) same)
    (one_calm moves c.add-done.result c.args.item c.requires.still)
    (subst (λ k. IsInside items birth stands moves id k c.enter.new.seat.token c.in-Ok.entered.book) (sym stay.0) stay.1)
