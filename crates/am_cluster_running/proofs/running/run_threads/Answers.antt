use Rattle.std.proofs.Common.{◌≡◌, ◌∙◌, length, refl, subst, arith}
use Rattle.std.proofs.lemmas.Option.{get_or_from_slice_get, slice_get_read, slice_get_within}
use Rattle.am_cluster_running.specs.Running.{SameThread}
use Rattle.am_places.specs.Seats.{table_in}
use Rattle.am_workers.specs.AtWork.{IsThreadAtWork}
use Rattle.am_workers.specs.declared.workers.ThreadWorker.{ThreadWorker}
use Rattle.am_cluster_running.proofs.running.run_threads.Goals as goal

pub for_each_mut-requires-clause-accepts : goal.for_each_mut-requires-clause-accepts
for_each_mut-requires-clause-accepts g c κs within i p low now =
    let few = c.requires.few in (
      c.requires.lawful,
      omega (arith, low, few),
      c.requires.first,
      c.requires.at_work i p.now (slice_get_read c.args.threads.now (length c.args.threads.now) i p.now refl low now),
    )

pub returns : goal.returns
returns g c =
    let long : length c.for_each_mut.new.s ≡ length c.args.threads.now = c.for_each_mut.auto.s in
    record {
      ran =
          record {
            all = long;
            at_work = λ k w at.
                let low = slice_get_within c.for_each_mut.new.s k w at in
                let changed = (c.for_each_mut.ensures k w (omega (arith, low, long))).1 in
                subst (λ (u : ThreadWorker). IsThreadAtWork c.args.scenario.now (table_in c.args.places.now) c.args.places.now.ids.items
                c.args.scenario.now.turns u) (changed.left ∙ get_or_from_slice_get c.for_each_mut.new.s k w w at) changed.call.0;
            same = λ k v w at_v at.
                let low = slice_get_within c.args.threads.now k v at_v in
                let changed = (c.for_each_mut.ensures k w low).1 in
                subst (λ (u : ThreadWorker). SameThread u w) (changed.argument_is ∙ get_or_from_slice_get c.args.threads.now k v w at_v)
                (subst (λ (u : ThreadWorker). SameThread changed.argument.now u) (changed.left
                ∙ get_or_from_slice_get c.for_each_mut.new.s k w w at) changed.call.1);
          };
    }
