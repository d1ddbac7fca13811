use Rattle.std.proofs.Common.{Option, ap, ◌∙◌, arith}
use Rattle.atomic_table.specs.Table.{Me}
use Rattle.am_workers_laws.specs.declared.books.EndBook.{EndBook}
use Rattle.am_workers_laws.specs.Books.Books.{stands_at}
use Rattle.am_places.specs.Rule.{inside_with, known_at}
use Rattle.am_workers_laws.specs.Invariants.Seats.{EndPass}
use Rattle.am_cluster_running.proofs.Taking.{taken_more}
use Rattle.am_cluster_running.proofs.ending.take_out_all.Goals as goal

pub loop-at-preserved : goal.loop-at-preserved
loop-at-preserved c =
    let inv = c.loop-at.invariant in
    let book = c.take_out-book.ensures.book in
    let pushed = rw c.unwrap.ensures at c.push.ensures.items in
    let h =
    taken_more c.loop-at.at c.args.keeper.now.token.me.0 c.loop-at.keeper.token.me c.loop-at.books.items c.push.new.self.items c.take_out-book.result book.0
    (inside_with (stands_at c.take_out-book.result.end.value) book.0 (known_at c.loop-at.at c.loop-at.keeper.token.me.0)) c.take_out-book.new.keeper.token.me.0
    (record { knows = inv.knows; wide = inv.wide; keeps = inv.keeps; seats = inv.seats; births = inv.births; long = inv.long; each = inv.each }) book.1
    (ap (λ (me : Me (Option EndBook) EndPass). me.0) book.2) pushed in
    record {
      table = c.take_out-book.ensures.keeper ∙ inv.table;
      knows = h.knows;
      wide = h.wide;
      keeps = h.keeps;
      seats = h.seats;
      births = h.births;
      long = h.long;
      room = (let old = inv.room in let more = c.push.ensures.capacity in omega (arith, old, more));
      each = h.each;
    }
