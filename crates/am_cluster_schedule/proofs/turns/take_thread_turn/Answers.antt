use Rattle.std.proofs.Common.{◌≡◌, Some, List, refl, sym, subst, slice_get}
use Rattle.std.proofs.lemmas.Option.{slice_get_within}
use Rattle.am_workers.specs.declared.workers.ThreadWorker.{ThreadWorker}
use Rattle.am_cluster_running.specs.Running.{IsThreadAt}
use Rattle.am_cluster_schedule.proofs.InTurn.{crew_itself, thread_turned}
use Rattle.am_cluster_schedule.proofs.Linked.{here_set, same_got}
use Rattle.am_cluster_schedule.proofs.turns.take_thread_turn.Goals as goal

pub thread_turn_at-requires-clause-at : goal.thread_turn_at-requires-clause-at
thread_turn_at-requires-clause-at c = let h = c.requires.at_work in slice_get_within c.args.crew.now.threads.items c.args.at h.0 h.1

pub thread_turn_at-requires-clause-at_work : goal.thread_turn_at-requires-clause-at_work
thread_turn_at-requires-clause-at_work c w at_w =
    let h = c.requires.at_work in
    subst (λ (v : ThreadWorker). IsThreadAt c.args.scenario.now c.args.crew.now.places c.args.number v)
    (same_got (slice_get c.args.crew.now.threads.items c.args.at) h.0 w h.1 at_w) h.2

pub returns-clause-within : goal.returns-clause-within
returns-clause-within c =
    let t = c.thread_turn_at.ensures in
    thread_turned c.args.scenario.now c.args.crew.now c.requires.within c.args.at c.args.number t.before t.after c.thread_turn_at.new.threads t.here
    c.requires.low t.at_work t.same t.others

pub returns-clause-at_work : goal.returns-clause-at_work
returns-clause-at_work c =
    let t = c.thread_turn_at.ensures in (
      t.after,
      subst (λ (ws : List ThreadWorker). slice_get ws c.args.at ≡ Some t.after) (sym t.others)
          (here_set c.args.crew.now.threads.items c.args.at t.before t.after t.here),
      t.at_work,
    )

pub returns-clause-turns : goal.returns-clause-turns
returns-clause-turns c =
    let t = c.thread_turn_at.ensures in
    record {
      before = t.before;
      after = t.after;
      threads = c.thread_turn_at.new.threads;
      here = t.here;
      turned = t.turned;
      others = t.others;
      crew = refl;
    }

pub returns-clause-same : goal.returns-clause-same
returns-clause-same c = let same = crew_itself c.args.crew.now in record { node = refl; outs = same.outs; ins = same.ins }
