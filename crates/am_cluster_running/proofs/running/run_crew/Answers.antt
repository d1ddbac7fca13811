use Rattle.std.specs.Prelude.{slice_get}
use Rattle.std.specs.Vec.{with_items}
use Rattle.std.proofs.lemmas.List.{with_items_is}
use Rattle.std.proofs.Common.{◌≡◌, ◌≤◌, List, Some, length, refl, sym, subst, arith}
use Rattle.am_cluster_running.specs.Running.{HaveRun}
use Rattle.am_workers.specs.declared.workers.ThreadWorker.{ThreadWorker}
use Rattle.am_cluster_running.proofs.Ran.{crew_ran, few_workers}
use Rattle.am_cluster_running.proofs.running.run_crew.Goals as goal

pub run_workers-requires-clause-few : goal.run_workers-requires-clause-few
run_workers-requires-clause-few g c κs within =
    let few = few_workers c.args.scenario.now c.args.crew.now.node 0 c.args.crew.now c.requires.lawful c.requires.crew in
    subst (λ (ts : List ThreadWorker). length ts ≤ 4) (sym c.deref_mut.ensures.value) few

pub run_workers-requires-clause-threads : goal.run_workers-requires-clause-threads
run_workers-requires-clause-threads g c κs within k w at =
    (c.requires.crew.threads k w (subst (λ (ts : List ThreadWorker). slice_get ts k ≡ Some w) c.deref_mut.ensures.value at)).at_work

pub run_workers-requires-clause-places : goal.run_workers-requires-clause-places
run_workers-requires-clause-places g c κs within = record {
  lawful = c.requires.lawful;
  packet = c.requires.packet;
  declared = c.requires.declared;
  ends = c.requires.crew.ids;
  frames = c.requires.crew.frames;
}

pub run_workers-requires-clause-at_work : goal.run_workers-requires-clause-at_work
run_workers-requires-clause-at_work g c κs within = record { interface = c.requires.crew.interface; driver = c.requires.crew.driver }

pub run_workers-requires-clause-of_node : goal.run_workers-requires-clause-of_node
run_workers-requires-clause-of_node g c κs within = c.requires.crew.driver.is_node

pub returns-clause-same : goal.returns-clause-same
returns-clause-same g c = record { node = refl; outs = c.run_workers.ensures.same.interface.outs; ins = c.run_workers.ensures.same.interface.ins }

pub returns-clause-crew : goal.returns-clause-crew
returns-clause-crew g c =
    let s = c.args.scenario.now in
    let crew = c.args.crew.now in
    let new = c.run_workers.new in
    let told = c.run_workers.ensures in
    let ran = subst (λ (ts : List ThreadWorker). HaveRun s crew.places ts new.threads) c.deref_mut.ensures.value told.threads in
    let ok = crew.threads.ok.0 in
    let all = ran.all in
    let same : (with_items crew.threads new.threads).items ≡ new.threads = with_items_is crew.threads new.threads (omega (arith, all, ok)) in
    let there = subst (λ (ts : List ThreadWorker). HaveRun s crew.places crew.threads.items ts) (sym same) ran in
    crew_ran s 0 crew (with_items crew.threads new.threads) new.interface new.driver c.requires.crew there.all there.at_work there.same told.at_work.interface
    told.same.interface told.at_work.driver told.same.driver
