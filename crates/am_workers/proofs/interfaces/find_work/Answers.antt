use Rattle.std.proofs.Common.{Option, refl, sym, subst}
use Rattle.am_workers.specs.WorkerTurns.{Does}
use Rattle.am_workers.specs.declared.workers.InterfaceWorker.{InterfaceWorker}
use Rattle.am_model_parts.specs.declared.work.Work.{Work}
use Rattle.am_workers.proofs.interfaces.find_work.Goals as goal

pub returns-in-Some-clause-finds : goal.returns-in-Some-clause-finds
returns-in-Some-clause-finds c =
    let v = c.args.worker.now in let w : InterfaceWorker = record v { waits = c.begin_turn.new.self } in
    record {
      w = w;
      same = refl;
      begun = c.begin_turn.ensures.turn;
      since = c.begin_turn.ensures.since;
      does =
          subst (λ (o : Option Work). Does c.args.ids.now w c.do_work.new.worker o) c.next_work-chosen.ensures.chosen
          (subst (λ (o : Option Work). Does c.args.ids.now w c.do_work.new.worker o) (sym c.in-Some.is) c.do_work.ensures.does);
    }

pub returns-in-None-clause-finds : goal.returns-in-None-clause-finds
returns-in-None-clause-finds c =
    let v = c.args.worker.now in let w : InterfaceWorker = record v { waits = c.begin_turn.new.self } in
    record {
      w = w;
      same = refl;
      begun = c.begin_turn.ensures.turn;
      since = c.begin_turn.ensures.since;
      does =
          subst (λ (o : Option Work). Does c.args.ids.now w w o) c.next_work-chosen.ensures.chosen
          (subst (λ (o : Option Work). Does c.args.ids.now w w o) (sym c.in-None.is) refl);
    }
