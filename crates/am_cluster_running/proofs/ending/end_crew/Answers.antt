use Rattle.std.specs.Prelude.{get_or}
use Rattle.std.proofs.Common.{◌≡◌, ◌∙◌, Option, map, refl, sym, ap, subst, arith}
use Rattle.std.proofs.lemmas.Option.{slice_get-get_or}
use Rattle.atomic_table.specs.Table.{Me}
use Rattle.am_workers_laws.specs.declared.books.EndBook.{EndBook}
use Rattle.am_places.specs.Rule.{HasGathered, IsOutside, gathered}
use Rattle.am_workers_laws.specs.Invariants.Seats.{EndPass}
use Rattle.am_workers_laws.specs.Ended.{IsTakenOut}
use Rattle.am_cluster_running.specs.Ends.Ends.{thread_pass, passes_of, whole_of}
use Rattle.am_cluster_running.proofs.Gathered.{gathered_push, outside_all}
use Rattle.am_cluster_running.proofs.ending.end_crew.Goals as goal

pub gather_threads-requires-clause-ended : goal.gather_threads-requires-clause-ended
gather_threads-requires-clause-ended c k d low = (c.requires.crew.threads k (get_or c.args.crew.threads.items k d)
    (slice_get-get_or c.args.crew.threads.items k d low)).at_work.idle

pub take_out_all-books-requires-clause-gathered : goal.take_out_all-books-requires-clause-gathered
take_out_all-books-requires-clause-gathered c =
    let whole : c.gather.new.keeper.token.me.0 ≡ whole_of c.args.crew =
    ap (λ (m : Me (Option EndBook) EndPass). m.0) c.gather.ensures.gathered
    ∙ ap (λ (m : Me (Option EndBook) EndPass). gathered m.0 c.args.crew.interface.seat.token.me.0) c.gather_threads.ensures.gathered
    ∙ sym (gathered_push c.args.crew.driver.seat.token.me.0 (map thread_pass c.args.crew.threads.items) c.args.crew.interface.seat.token.me.0)
    in
    subst (λ (v : EndPass). HasGathered v) (sym whole) (c.a_crew_is_gathered.ensures c.args.scenario.now c.args.crew.node c.args.scenario.now.turns c.args.crew
    c.requires.crew (omega arith))

pub take_out_all-books-requires-clause-outside : goal.take_out_all-books-requires-clause-outside
take_out_all-books-requires-clause-outside c =
    let whole : c.gather.new.keeper.token.me.0 ≡ whole_of c.args.crew =
    ap (λ (m : Me (Option EndBook) EndPass). m.0) c.gather.ensures.gathered
    ∙ ap (λ (m : Me (Option EndBook) EndPass). gathered m.0 c.args.crew.interface.seat.token.me.0) c.gather_threads.ensures.gathered
    ∙ sym (gathered_push c.args.crew.driver.seat.token.me.0 (map thread_pass c.args.crew.threads.items) c.args.crew.interface.seat.token.me.0)
    in
    subst (λ (v : EndPass). IsOutside v) (sym whole) (outside_all c.args.crew.driver.seat.token.me.0 (passes_of c.args.crew)
    c.requires.crew.driver.idle.outside)

pub returns : goal.returns
returns c =
    let whole : c.gather.new.keeper.token.me.0 ≡ whole_of c.args.crew =
    ap (λ (m : Me (Option EndBook) EndPass). m.0) c.gather.ensures.gathered
    ∙ ap (λ (m : Me (Option EndBook) EndPass). gathered m.0 c.args.crew.interface.seat.token.me.0) c.gather_threads.ensures.gathered
    ∙ sym (gathered_push c.args.crew.driver.seat.token.me.0 (map thread_pass c.args.crew.threads.items) c.args.crew.interface.seat.token.me.0)
    in
    let taken = c.take_out_all-books.ensures.taken in
    record {
      node =
          record {
            node = refl;
            interface = refl;
            swap = refl;
            hand = refl;
            taken =
                record {
                  all = taken.all ∙ sym c.args.crew.places.sized.2;
                  each = λ k b at. subst (λ (v : EndPass). IsTakenOut v k b) whole (taken.each k b at);
                };
          };
      outs = refl;
      ins = refl;
    }
