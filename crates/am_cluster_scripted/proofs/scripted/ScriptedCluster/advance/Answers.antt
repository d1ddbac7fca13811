use Rattle.std.specs.Prelude.{Ok, Err}
use Rattle.std.proofs.Common.{ℕ, List, map, subst, sym}
use Rattle.am_model_scripts.specs.Layout.{layout_of}
use Rattle.am_model_scripts.proofs.Lawful.{lawful_layout}
use Rattle.am_model.specs.declared.EntryFault.{EntryFault}
use Rattle.am_machine.specs.View.{Makes}
use Rattle.am_machine.proofs.Refusing.{starved}
use Rattle.am_wire_release.specs.Staged.{Staged}
use Rattle.am_cluster_scripted.specs.Links.{AreFed, released_in}
use Rattle.am_cluster_scripted.specs.Scripted.{RunView, cluster_of}
use Rattle.am_model_scripts.specs.Scripts.{call_made}
use Rattle.am_cluster_calls.specs.Lows.{IsLow}
use Rattle.am_cluster_calls.specs.Threads.{scripted_in}
use Rattle.am_cluster_calls.specs.declared.threads.ThreadScript.{ThreadScript}
use Rattle.am_cluster_calls.proofs.Counting.{threads_distinct}
use Rattle.am_cluster_calls.proofs.Lowest.{low_counted}
use Rattle.am_cluster_scripted.proofs.Applying.{made_read, made_step, makes_in, of_layout, short_of, step_called, step_fed, step_parts}
use Rattle.am_cluster_scripted.proofs.Growing.{goes_from, goes_to}
use Rattle.am_cluster_calls.proofs.CallsGrowing.{made_small}
use Rattle.am_cluster_scripted.proofs.Marking.{step_marked, step_paired, step_within}
use Rattle.am_cluster_scripted.proofs.scripted.ScriptedCluster.advance.Goals as goal

pub feed_entry-requires-clause-from : goal.feed_entry-requires-clause-from
feed_entry-requires-clause-from c =
    let s = c.self.inside.scenario.now in
    let old = c.self.inside.cluster in
    let step = made_step s old c.make.new.self c.args.event.now tt c.last_of.result c.in-Some.entry c.self.invariant.parts c.laws-in-Ok.ensures.history
    c.in-Ok.ensures c.last_of.ensures c.in-Some.is in
    goes_from (layout_of s) old.journal c.in-Some.entry.now (lawful_layout s c.self.invariant.parts.lawful) step.history

pub feed_entry-requires-clause-to : goal.feed_entry-requires-clause-to
feed_entry-requires-clause-to c =
    let s = c.self.inside.scenario.now in
    let old = c.self.inside.cluster in
    let step = made_step s old c.make.new.self c.args.event.now tt c.last_of.result c.in-Some.entry c.self.invariant.parts c.laws-in-Ok.ensures.history
    c.in-Ok.ensures c.last_of.ensures c.in-Some.is in
    goes_to (layout_of s) old.journal c.in-Some.entry.now (lawful_layout s c.self.invariant.parts.lawful) step.history

pub count_event-requires-clause-distinct : goal.count_event-requires-clause-distinct
count_event-requires-clause-distinct c = threads_distinct c.self.inside.scenario.now c.self.inside.cluster.journal (map scripted_in c.self.inside.threads.items)
    c.self.invariant.parts.lawful c.self.invariant.threads

pub low_after-self-inside-requires : goal.low_after-self-inside-requires
low_after-self-inside-requires c =
    subst (λ (l : List ThreadScript). IsLow (map scripted_in l) c.self.inside.low) (sym c.deref.ensures.value)
    (low_counted (map scripted_in c.self.inside.threads.items) (map scripted_in c.count_event.new.threads.items) (call_made c.args.event.now) c.self.inside.low
    c.count_event.ensures c.self.invariant.low)

pub count_event-requires-clause-small : goal.count_event-requires-clause-small
count_event-requires-clause-small c =
    let s = c.self.inside.scenario.now in
    let old = c.self.inside.cluster in
    made_small s old.journal (map scripted_in c.self.inside.threads.items) c.self.invariant.threads
    (short_of s old c.self.invariant.parts c.laws.ensures.history) c.self.invariant.parts.lawful.settings.log.1

pub mark_touched-requires : goal.mark_touched-requires
mark_touched-requires c =
    let s = c.self.inside.scenario.now in
    let old = c.self.inside.cluster in
    let new = c.make.new.self in
    step_parts s old new c.args.event.now c.in-Some.entry.now c.self.invariant.parts (made_step s old new c.args.event.now tt c.last_of.result c.in-Some.entry
    c.self.invariant.parts c.laws-in-Ok.ensures.history c.in-Ok.ensures c.last_of.ensures c.in-Some.is)

pub mark_pair-requires-clause-parts : goal.mark_pair-requires-clause-parts
mark_pair-requires-clause-parts c =
    let s = c.self.inside.scenario.now in
    let old = c.self.inside.cluster in
    let new = c.make.new.self in
    step_parts s old new c.args.event.now c.in-Some.entry.now c.self.invariant.parts (made_step s old new c.args.event.now tt c.last_of.result c.in-Some.entry
    c.self.invariant.parts c.laws-in-Ok.ensures.history c.in-Ok.ensures c.last_of.ensures c.in-Some.is)

pub mark_pair-requires-clause-fed : goal.mark_pair-requires-clause-fed
mark_pair-requires-clause-fed c =
    let s = c.self.inside.scenario.now in
    let old = c.self.inside.cluster in
    let new = c.make.new.self in
    let x = c.in-Some.entry.now in
    let step = made_step s old new c.args.event.now tt c.last_of.result c.in-Some.entry c.self.invariant.parts c.laws-in-Ok.ensures.history c.in-Ok.ensures
    c.last_of.ensures c.in-Some.is in
    subst (λ (l : List (Staged ℕ)). AreFed s.plan new.journal (map released_in l)) (sym c.deref-in-Ok.ensures.value)
    (step_fed s old new c.args.event.now x c.self.inside.plan (map released_in c.self.inside.links.all.items)
    (map released_in c.make_all_room.new.table.all.items) (map released_in c.feed_entry.new.links.all.items) c.self.invariant.parts step
    c.self.invariant.fed
    c.make_all_room.ensures.same
    c.self.invariant.plan
    c.feed_entry.ensures.fed)

pub mark_pair-requires-clause-within : goal.mark_pair-requires-clause-within
mark_pair-requires-clause-within c =
    let s = c.self.inside.scenario.now in
    let old = c.self.inside.cluster in
    let new = c.make.new.self in
    let x = c.in-Some.entry.now in
    step_within s old new c.args.event.now x c.self.invariant.parts (made_step s old new c.args.event.now tt c.last_of.result c.in-Some.entry
    c.self.invariant.parts c.laws-in-Ok.ensures.history c.in-Ok.ensures c.last_of.ensures c.in-Some.is)

pub invariant_of-self-in-Ok : goal.invariant_of-self-in-Ok
invariant_of-self-in-Ok c =
    let s = c.self.inside.scenario.now in
    let old = c.self.inside.cluster in
    let new = c.make.new.self in
    let x = c.in-Some.entry.now in
    let step = made_step s old new c.args.event.now tt c.last_of.result c.in-Some.entry c.self.invariant.parts c.laws-in-Ok.ensures.history c.in-Ok.ensures
    c.last_of.ensures c.in-Some.is in
    record {
      parts = step_parts s old new c.args.event.now x c.self.invariant.parts step;
      plan = c.self.invariant.plan;
      fed =
          step_fed s old new c.args.event.now x c.self.inside.plan (map released_in c.self.inside.links.all.items)
          (map released_in c.make_all_room.new.table.all.items) (map released_in c.feed_entry.new.links.all.items) c.self.invariant.parts step
          c.self.invariant.fed
          c.make_all_room.ensures.same
          c.self.invariant.plan
          c.feed_entry.ensures.fed;
      spared = c.feed_entry.ensures.spared;
      low = subst (λ (l : List ThreadScript). IsLow (map scripted_in l) c.low_after-self-inside.result) c.deref.ensures.value c.low_after-self-inside.ensures;
      ends = step_marked s old new c.args.event.now x c.self.inside.ends c.mark_touched.new.marks step c.self.invariant.ends c.mark_touched.ensures;
      pairs = step_paired s old new c.args.event.now x c.self.inside.pairs c.mark_pair.new.marks c.self.invariant.parts step c.self.invariant.pairs
          c.mark_pair.ensures;
      threads = step_called s old new c.args.event.now x (map scripted_in c.self.inside.threads.items) (map scripted_in c.count_event.new.threads.items) step
          c.self.invariant.threads c.count_event.ensures;
    }

pub unreachable-requires : goal.unreachable-requires
unreachable-requires c =
    made_read c.self.inside.cluster c.make.new.self c.args.event.now tt c.last_of.result c.in-Ok.ensures c.last_of.ensures c.in_default.is

pub returns-in-Some-clause-makes : goal.returns-in-Some-clause-makes
returns-in-Some-clause-makes c =
    let s = c.self.inside.scenario.now in
    let old = c.self.inside.cluster in
    let new = c.make.new.self in
    subst (λ (w : RunView). Makes (cluster_of w) (of_layout s new) c.args.event.now (Ok tt)) c.self.view_is
    (makes_in s old new c.args.event.now (Ok tt) c.self.invariant.parts.layout c.in-Ok.ensures)

pub returns-in-Some-clause-short : goal.returns-in-Some-clause-short
returns-in-Some-clause-short c =
    let s = c.self.inside.scenario.now in
    let old = c.self.inside.cluster in
    let new = c.make.new.self in
    let step = made_step s old new c.args.event.now tt c.last_of.result c.in-Some.entry c.self.invariant.parts c.laws-in-Ok.ensures.history c.in-Ok.ensures
    c.last_of.ensures c.in-Some.is in
    short_of s new (step_parts s old new c.args.event.now c.in-Some.entry.now c.self.invariant.parts step) c.laws-in-Ok.ensures.history

pub returns-in-Err-clause-makes : goal.returns-in-Err-clause-makes
returns-in-Err-clause-makes c =
    let s = c.self.inside.scenario.now in
    let old = c.self.inside.cluster in
    let new = c.make.new.self in
    subst (λ (w : RunView). Makes (cluster_of w) (of_layout s new) c.args.event.now (Err c.in-Err.fault)) c.self.view_is
    (makes_in s old new c.args.event.now (Err c.in-Err.fault) c.self.invariant.parts.layout c.in-Err.ensures)

pub returns-then-is_err-clause-makes : goal.returns-then-is_err-clause-makes
returns-then-is_err-clause-makes c =
    let s = c.self.inside.scenario.now in
    let old = c.self.inside.cluster in
    let told : Makes old old c.args.event.now (Err c.unwrap_or.result) =
    subst (λ (fault : EntryFault). Makes old old c.args.event.now (Err fault)) (sym c.unwrap_or.ensures)
    (starved old c.args.event.now c.refusal.result c.refusal.ensures) in
    subst (λ (w : RunView). Makes (cluster_of w) (of_layout s old) c.args.event.now (Err c.unwrap_or.result)) c.self.view_is
    (makes_in s old old c.args.event.now (Err c.unwrap_or.result) c.self.invariant.parts.layout told)
