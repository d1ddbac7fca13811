use Rattle.std.proofs.Common.{◌<◌, ap, sym, subst, arith}
use Rattle.am_places.specs.Rule.{HasGathered, IsOutside}
use Rattle.am_places.specs.Seats.{table_in}
use Rattle.am_places.proofs.Ends.{at_below}
use Rattle.am_places_stays.proofs.TwoSeats.{both_come, both_gathered, both_outside}
use Rattle.am_places_stays.proofs.ending.end_all.Goals as goal

pub take_all-requires-clause-gathered : goal.take_all-requires-clause-gathered
take_all-requires-clause-gathered g c κs within =
    subst (λ z. HasGathered z) (sym (ap (λ m. m.0) c.gather.ensures.gathered))
    (both_gathered _ c.args.keeper c.args.other c.requires.keeper c.requires.other c.requires.marks)

pub take_all-requires-clause-outside : goal.take_all-requires-clause-outside
take_all-requires-clause-outside g c κs within =
    subst (λ z. IsOutside z) (sym (ap (λ m. m.0) c.gather.ensures.gathered))
    (both_outside _ c.args.keeper c.args.other c.requires.keeper c.requires.other c.requires.marks)

pub returns-clause-each : goal.returns-clause-each
returns-clause-each g c k b at =
    let r = c.requires in
    let came = c.in_ok-books.ensures.each k b at in
    let near : k < (table_in c.args.places.now).slots = let n = at_below c.in_ok-books.books.items k b at in let many = c.in_ok-books.ensures.many in
    let s = c.args.places.now.sized.1 in omega (arith, n, many, s) in
    both_come _ c.args.keeper c.args.other r.keeper r.other r.marks g.B.Book.items g.B.Book.birth g.B.Book.stands g.B.Book.moves k
    c.gather.new.keeper.token.me.0 c.gather.new.keeper.token.me.1 came.0 b near (ap (λ m. m.0) c.gather.ensures.gathered) came.1
