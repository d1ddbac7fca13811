use Rattle.std.proofs.Common.{◌<◌, ap, sym, subst, map, arith}
use Rattle.am_places.specs.Rule.{Comes, HasGathered, IsOutside}
use Rattle.am_places.specs.Seats.{pass_of, table_in}
use Rattle.am_places.proofs.Ends.{at_below}
use Rattle.am_places_stays.proofs.ManySeats.{all_wait, outside_all, seats_come, seats_gathered}
use Rattle.am_places_stays.proofs.ending.end_seats.Goals as goal

pub gather_all-requires-clause-others : goal.gather_all-requires-clause-others
gather_all-requires-clause-others g c κs within = all_wait _ c.args.others.items (λ j s at. (c.requires.others j s at).0)

pub take_all-requires-clause-gathered : goal.take_all-requires-clause-gathered
take_all-requires-clause-gathered g c κs within =
    let r = c.requires in
    subst (λ z. HasGathered z) (sym (ap (λ m. m.0) c.gather_all.ensures.gathered)) (seats_gathered _ c.args.last c.args.others.items r.last r.others r.marks)

pub take_all-requires-clause-outside : goal.take_all-requires-clause-outside
take_all-requires-clause-outside g c κs within =
    subst (λ z. IsOutside z) (sym (ap (λ m. m.0) c.gather_all.ensures.gathered))
    (outside_all c.args.last.token.me.0 (map (λ s. pass_of s) c.args.others.items) c.requires.last.outside)

pub returns-clause-each : goal.returns-clause-each
returns-clause-each g c k b at =
    let r = c.requires in
    let came = c.in_ok-books.ensures.each k b at in
    let near : k < (table_in c.args.places.now).slots = let n = at_below c.in_ok-books.books.items k b at in let many = c.in_ok-books.ensures.many in let s = c.args.places.now.sized.1 in
    omega (arith, n, many, s) in
    let items = g.B.Book.items in let birth = g.B.Book.birth in let stands = g.B.Book.stands in let moves = g.B.Book.moves in
    seats_come _ c.args.last c.args.others.items r.last r.others r.marks items birth stands moves k c.gather_all.new.keeper.token.me.1 came.0 b near
    (subst (λ z. Comes items birth stands moves k (z, c.gather_all.new.keeper.token.me.1) came.0 b) (ap (λ m. m.0) c.gather_all.ensures.gathered) came.1)
