use Rattle.std.proofs.Common.{◌≡◌, map}
use Rattle.std.specs.List.{AllByRecursion}
use Rattle.am_cluster_running.specs.Ends.Ends.{gathered_all, thread_pass}
use Rattle.am_places.specs.Seats.{table_in}
use Rattle.am_workers.specs.declared.workers.ThreadWorker.{ThreadWorker}
use Rattle.am_workers_laws.specs.Invariants.Seats.{IsIdle}
use Rattle.am_cluster_running.proofs.ending.gather_threads.Given as goal

abbrev pub invariant-loop-worker : goal.invariant-loop-worker
invariant-loop-worker l =
    record {
      table : l.keeper.token.table_id ≡ l.fn.keeper.token.table_id;
      gathered : gathered_all l.keeper.token.me.0 (map thread_pass l.worker-iterator.rest.items) ≡ gathered_all l.fn.keeper.token.me.0
          (map thread_pass l.fn.threads.items);
      hand : l.keeper.token.me.1 ≡ l.fn.keeper.token.me.1;
      idle : AllByRecursion (λ (w : ThreadWorker). IsIdle (table_in l.fn.places) w.seat.token) l.worker-iterator.rest.items;
    }
