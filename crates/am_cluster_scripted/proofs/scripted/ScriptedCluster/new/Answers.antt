use Rattle.std.proofs.Common.{ℕ, ◌∙◌, ap, sym, map, subst, List}
use Rattle.am_wire_release.specs.Staged.{Staged}
use Rattle.am_office_entries.specs.declared.Entry.{Entry}
use Rattle.am_cluster_scripted.specs.Links.{AreFed, released_in}
use Rattle.am_cluster_calls.specs.Threads.{scripted_in, scripted_of}
use Rattle.am_cluster_scripted.proofs.Starting.{begun_parts, fed_nothing}
use Rattle.am_cluster_scripted.proofs.scripted.ScriptedCluster.new.Goals as goal

pub all_shown-ends-requires : goal.all_shown-ends-requires
all_shown-ends-requires c =
    begun_parts c.args.scenario.now c.in_ok-cluster.cluster c.requires.lawful c.requires.packet c.in_ok-cluster.ensures.layout c.in_ok-cluster.ensures.journal

pub all_pairs-pairs-requires-clause-parts : goal.all_pairs-pairs-requires-clause-parts
all_pairs-pairs-requires-clause-parts c =
    begun_parts c.args.scenario.now c.in_ok-cluster.cluster c.requires.lawful c.requires.packet c.in_ok-cluster.ensures.layout c.in_ok-cluster.ensures.journal

pub all_pairs-pairs-requires-clause-fed : goal.all_pairs-pairs-requires-clause-fed
all_pairs-pairs-requires-clause-fed c =
    let s = c.args.scenario.now in
    subst (λ (l : List (Staged ℕ)). AreFed s.plan c.in_ok-cluster.cluster.journal (map released_in l)) (sym c.deref.ensures.value)
    (subst (λ (j : List Entry). AreFed s.plan j (map released_in c.in_ok-links.links.all.items)) (sym c.in_ok-cluster.ensures.journal)
    (fed_nothing s.plan c.in_ok-links.links.all.items c.in_ok-links.ensures.len c.in_ok-links.ensures.none))

pub invariant_of-result : goal.invariant_of-result
invariant_of-result c =
    let s = c.args.scenario.now in
    let none = c.in_ok-cluster.ensures.journal in
    record {
      parts = begun_parts s c.in_ok-cluster.cluster c.requires.lawful c.requires.packet c.in_ok-cluster.ensures.layout none;
      plan = c.in_ok-plan.ensures;
      fed =
          subst (λ (j : List Entry). AreFed s.plan j (map released_in c.in_ok-links.links.all.items)) (sym none)
          (fed_nothing s.plan c.in_ok-links.links.all.items c.in_ok-links.ensures.len c.in_ok-links.ensures.none);
      ends = c.all_shown-ends.ensures;
      pairs = c.all_pairs-pairs.ensures;
      spared = c.in_ok-links.ensures.spared;
      low = c.no_low.ensures (map scripted_in c.in_ok-threads.threads.items);
      threads = c.in_ok-threads.ensures ∙ ap (λ (j : List Entry). map (scripted_of s j) s.threads) (sym none);
    }
