use Rattle.std.proofs.Common.{List, sym, subst, arith}
use Rattle.am_endpoint.specs.View.{EndpointView}
use Rattle.am_cluster_opening.proofs.Booked.{AreBooked, booked_begins, booked_ends, booked_more, booked_next}
use Rattle.am_cluster_opening.proofs.Lists.{none_left}
use Rattle.am_cluster_opening.proofs.node.ends.books_of.Goals as goal

pub loop-end-init : goal.loop-end-init
loop-end-init c = coe 0 1 (i. AreBooked c.args.ends.now.items (sym c.reverse.ensures.items i) (sym c.new-books.ensures.items i))
    (booked_begins c.args.ends.now.items c.requires)

pub book_of-requires : goal.book_of-requires
book_of-requires c =
    booked_next c.args.ends.now.items c.pop.new.self.items c.in-Some.end c.loop-end.books.items
    (subst (λ (rest : List EndpointView). AreBooked c.args.ends.now.items rest c.loop-end.books.items) c.in-Some.ensures.items c.loop-end.invariant)

pub loop-end-preserved : goal.loop-end-preserved
loop-end-preserved c =
    let so = subst (λ (rest : List EndpointView). AreBooked c.args.ends.now.items rest c.loop-end.books.items) c.in-Some.ensures.items c.loop-end.invariant in
    subst (AreBooked c.args.ends.now.items c.pop.new.self.items) (sym c.in_ok-push.ensures.items)
    (booked_more c.args.ends.now.items c.pop.new.self.items c.in-Some.end c.loop-end.books.items c.in_ok-book.book so c.in_ok-book.ensures)

pub returns : goal.returns
returns c =
    let none = none_left c.loop-end.ends.items (let items = c.loop-end.ends.ok.0 in let empty = c.in_default.ensures.cases.0 in omega (arith, items, empty)) in
    booked_ends c.args.ends.now.items c.loop-end.books.items (subst (λ (rest : List EndpointView). AreBooked c.args.ends.now.items rest c.loop-end.books.items)
    none c.loop-end.invariant)
