use Rattle.std.proofs.Common.{◌<◌, ap, sym, length, arith}
use Rattle.atomic_table.specs.Seated.{TableId}
use Rattle.am_places_stays.proofs.Staying.{leaves, left_added, left_began}
use Rattle.am_places_stays.proofs.stays.leave.Goals as goal

pub returns-clause-waiting : goal.returns-clause-waiting
returns-clause-waiting g c =
    let near : c.args.entered.at < length c.args.seat.now.token.me.0.known = let a = c.requires.at in let s = c.args.places.now.sized.1 in
    let k = c.args.seat.now.sized in omega (arith, a, s, k, ap (λ (i : TableId). i.slots) c.requires.inside.table) in
    leaves g.B.Book.items g.B.Book.birth g.B.Book.stands g.B.Book.moves _ c.args.entered.at c.args.seat.now.mark c.args.seat.now.token c.leave.new.seat.token
    c.args.entered.book c.requires.inside c.leave.ensures.seat.0 near (sym c.args.seat.now.marked.1) c.leave.ensures.tenure

pub returns-clause-added : goal.returns-clause-added
returns-clause-added g c =
    let near : c.args.entered.at < length c.args.seat.now.token.me.0.known = let a = c.requires.at in let s = c.args.places.now.sized.1 in
    let k = c.args.seat.now.sized in omega (arith, a, s, k, ap (λ (i : TableId). i.slots) c.requires.inside.table) in
    left_added g.B.Book.items g.B.Book.birth g.B.Book.stands g.B.Book.moves c.args.entered.at c.args.seat.now.mark c.args.seat.now.token c.leave.new.seat.token
    c.args.entered.book near c.leave.ensures.tenure

pub returns-clause-began : goal.returns-clause-began
returns-clause-began g c =
    let near : c.args.entered.at < length c.args.seat.now.token.me.0.known = let a = c.requires.at in let s = c.args.places.now.sized.1 in
    let k = c.args.seat.now.sized in omega (arith, a, s, k, ap (λ (i : TableId). i.slots) c.requires.inside.table) in
    record {
      began = left_began g.B.Book.items g.B.Book.birth g.B.Book.stands g.B.Book.moves c.args.entered.at c.args.seat.now.mark c.args.seat.now.token
          c.leave.new.seat.token c.args.entered.book near c.leave.ensures.tenure;
    }
