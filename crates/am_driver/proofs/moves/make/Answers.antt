use Rattle.std.proofs.Common.{ℕ, ◌+◌, ap, ◌∙◌, max, subst, sym}
use Rattle.am_workers_laws.specs.Books.Books.{IsBook}
use Rattle.am_endpoint.specs.View.{EndpointView}
use Rattle.am_driver_moves.specs.Logs.{kept}
use Rattle.am_driver_moves.specs.Moves.{CanMoveBy}
use Rattle.am_driver.proofs.Making.{moved_book}
use Rattle.am_driver.proofs.moves.make.Goals as goal

pub invariant_of-book-2 : goal.invariant_of-book-2
invariant_of-book-2 g c =
    let same = sym c.deref_mut-end.ensures.value in
    record {
      kept = moved_book (g.S.Swap.device c.args.swap.now) (g.S.Swap.device c.make_move_on.new.swap) c.deref_mut-end.result.now c.room.new.self
          c.make_move_on.new.end c.args.event c.args.clock _
          c.make_move_on.result (subst IsBook same c.args.book.now.kept) c.room.ensures.settings c.room.ensures.log c.in-Ok.ensures.spare
          (subst (λ (d : EndpointView). CanMoveBy (g.S.Swap.device c.args.swap.now).held (kept d) c.args.event) same c.requires.can)
          (ap (λ (n : ℕ). 1 + n) (c.max-stamp.ensures
          ∙ ap (max c.args.clock) c.last_stamp.ensures)) c.make_move_on.ensures.moves;
    }
