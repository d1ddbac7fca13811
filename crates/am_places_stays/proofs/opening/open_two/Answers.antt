use Rattle.std.proofs.Common.{◌≡◌, ◌∷◌, ◌++◌, [], ap, ◌∙◌, subst, length, length-append, arith}
use Rattle.std.specs.Option.{option_to_list}
use lib.ListN.{get_elem?}
use Rattle.atomic_table.proofs.Lists.{at_longer}
use Rattle.am_places_stays.specs.Stays.{IsNew}
use Rattle.am_places_stays.proofs.Staying.{at_last}
use Rattle.am_places_stays.proofs.opening.open_two.Goals as goal

pub returns-clause-second : goal.returns-clause-second
returns-clause-second g c =
    let rest = c.pop.new.self.items in
    let all = c.pop.ensures.items ∙ ap (λ z. rest ++ option_to_list z) c.in-Some.is in
    let one : length rest ≡ 1 = let many = c.in_ok-places.ensures.many in omega (arith, many, ap length all, length-append rest (c.in-Some.second ∷ [])) in
    subst (λ k. IsNew g.B.Book.items c.in_ok-places.places.board.shared.table_id c.args.books.items k 2 c.args.frames c.in-Some.second.token) one
    (c.in_ok-places.ensures.seats (length rest) c.in-Some.second (ap (λ z. get_elem? z (length rest)) all ∙ at_last rest c.in-Some.second))

pub returns-clause-first : goal.returns-clause-first
returns-clause-first g c =
    let rest = c.pop.new.self.items in
    let front = c.pop-2.new.self.items in
    let first = c.in-Some-pop.first in
    let all = c.pop.ensures.items ∙ ap (λ z. rest ++ option_to_list z) c.in-Some.is in
    let those = c.pop-2.ensures.items ∙ ap (λ z. front ++ option_to_list z) c.in-Some-pop.is in
    let none : length front ≡ 0 = let many = c.in_ok-places.ensures.many in omega (
      arith,
      many,
      ap length all,
      length-append rest (c.in-Some.second ∷ []),
      ap length those,
      length-append front (first ∷ []),
    ) in
    subst (λ k. IsNew g.B.Book.items c.in_ok-places.places.board.shared.table_id c.args.books.items k 2 c.args.frames first.token) none
    (c.in_ok-places.ensures.seats (length front) first
    (ap (λ z. get_elem? z (length front)) all ∙ at_longer rest (c.in-Some.second ∷ []) (length front) first (ap (λ z. get_elem? z (length front)) those
    ∙ at_last front first)))
