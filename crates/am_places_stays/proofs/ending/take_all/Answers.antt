use Rattle.std.proofs.Common.{◌≡◌, ◌<◌, ◌+◌, ◌∙◌, ap, sym, subst, [], ◌∷◌, List, ℕ, length, length-append, arith, refl, ⊎_elim}
use mathlib.Core.Option.{some}
use lib.ListN.{get_elem?}
use Rattle.atomic_table.specs.Seated.{TableId}
use Rattle.am_places.specs.Rule.{Comes}
use Rattle.am_places.proofs.Ends.{at_end}
use Rattle.am_places_stays.proofs.Staying.{elsewhere_same}
use Rattle.am_places_stays.proofs.Taking.{comes_still, gathered_still, still_next}
use Rattle.am_places_stays.proofs.ending.take_all.Goals as goal

pub take_gathered-requires-clause-gathered : goal.take_gathered-requires-clause-gathered
take_gathered-requires-clause-gathered g c κs within =
    gathered_still c.args.keeper.token.me.0 c.loop-at.keeper.token.me.0 c.loop-at.invariant.still c.requires.gathered

pub take_gathered-requires-clause-outside : goal.take_gathered-requires-clause-outside
take_gathered-requires-clause-outside g c κs within =
    let near : c.loop-at.at < length c.args.keeper.token.me.0.known = let a = c.loop-at-test.true in let s = c.args.places.now.sized.1 in
    let k = c.args.keeper.sized in omega (arith, a, s, k, ap (λ (i : TableId). i.slots) c.requires.table) in
    ap (λ x. x.inside) (c.loop-at.invariant.known c.loop-at.at (omega arith)) ∙ c.requires.outside c.loop-at.at near

pub loop-at-init : goal.loop-at-init
loop-at-init g c = record {
  table = c.requires.table;
  still = refl;
  known = λ k _. refl;
  many = ap length c.new-books.ensures.items;
  each = λ k b at. absurd (let none : get_elem? [] k ≡ some b = ap (λ z. get_elem? z k) (sym c.new-books.ensures.items) ∙ at in cc);
}

pub loop-at-preserved : goal.loop-at-preserved
loop-at-preserved g c =
    let m = c.loop-at.invariant in
    let book = c.take_gathered.result in
    let came = c.take_gathered.ensures.book in
    let more = c.in_ok-push.ensures.items in
    let v = c.args.keeper.token.me.0 in
    let u = c.loop-at.keeper.token.me.0 in
    let here = comes_still g.B.Book.items g.B.Book.birth g.B.Book.stands g.B.Book.moves c.loop-at.at v u c.loop-at.keeper.token.me.1 c.args.keeper.token.me.1 came.0 book
    m.still (m.known c.loop-at.at (omega arith)) came.1 in record {
      table = c.take_gathered.ensures.seat.0 ∙ m.table;
      still = still_next v u c.take_gathered.new.keeper.token.me.0 c.loop-at.at _ m.still came.2;
      known = λ k behind. elsewhere_same c.loop-at.at _ u c.take_gathered.new.keeper.token.me.0 came.2 k (λ e. omega (arith, behind, e))
          ∙ m.known k (omega (arith, behind));
      many = ap length more ∙ length-append c.loop-at.books.items (book ∷ []) ∙ ap (λ (n : ℕ). n + 1) m.many;
      each = λ k b at. ⊎_elim
          (m.each k b)
          (λ t. subst (λ (j : ℕ). (log : List _) × Comes g.B.Book.items g.B.Book.birth g.B.Book.stands g.B.Book.moves j c.args.keeper.token.me log b) (sym (t.0 ∙ m.many))
          (subst (λ (d : g.row.B.Denot). (log : List _) × Comes g.B.Book.items g.B.Book.birth g.B.Book.stands g.B.Book.moves c.loop-at.at c.args.keeper.token.me log d) t.1 (came.0, here)))
          (at_end c.loop-at.books.items book b k (ap (λ z. get_elem? z k) (sym more) ∙ at));
    }
