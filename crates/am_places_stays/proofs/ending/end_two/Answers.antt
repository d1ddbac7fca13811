use Rattle.std.proofs.Common.{◌≡◌, ◌<◌, ap, sym, subst, length, arith, false, ◌∙◌, ◌∷◌, []}
use Rattle.atomic_table.specs.Seated.{TableId}
use Rattle.am_places.specs.Rule.{HasGathered, known_at}
use Rattle.am_places.specs.Seats.{table_in}
use Rattle.am_places_stays.proofs.ManySeats.{inside_all}
use Rattle.am_places_stays.proofs.TwoSeats.{both_come, both_gathered}
use Rattle.am_places_stays.proofs.ending.end_two.Goals as goal

pub take_gathered-requires-clause-gathered : goal.take_gathered-requires-clause-gathered
take_gathered-requires-clause-gathered g c κs within =
    subst (λ z. HasGathered z) (sym (ap (λ m. m.0) c.gather.ensures.gathered))
    (both_gathered _ c.args.keeper c.args.other c.requires.keeper c.requires.other c.requires.marks)

pub take_gathered-requires-clause-outside : goal.take_gathered-requires-clause-outside
take_gathered-requires-clause-outside g c κs within =
    let r = c.requires in
    let near : c.args.at < length c.args.keeper.token.me.0.known = let a = r.at in let s = c.args.places.now.sized.1 in let k = c.args.keeper.sized in
    omega (arith, a, s, k, ap (λ (i : TableId). i.slots) r.keeper.table) in
    subst (λ z. (known_at c.args.at z).inside ≡ false) (sym (ap (λ m. m.0) c.gather.ensures.gathered))
    (inside_all c.args.at c.args.keeper.token.me.0 (c.args.other.token.me.0 ∷ []) ∙ r.keeper.outside c.args.at near)

pub returns : goal.returns
returns g c =
    let r = c.requires in
    let near : c.args.at < (table_in c.args.places.now).slots = let a = r.at in let s = c.args.places.now.sized.1 in omega (arith, a, s) in
    both_come _ c.args.keeper c.args.other r.keeper r.other r.marks g.B.Book.items g.B.Book.birth g.B.Book.stands g.B.Book.moves c.args.at
    c.gather.new.keeper.token.me.0 c.gather.new.keeper.token.me.1 c.take_gathered.ensures.book.0 c.take_gathered.result near
    (ap (λ m. m.0) c.gather.ensures.gathered) c.take_gathered.ensures.book.1
