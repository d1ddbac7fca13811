use Rattle.am_model_scripts.specs.Layout.{layout_of}
use Rattle.am_model_scripts.proofs.Lawful.{lawful_layout}
use Rattle.am_cluster_scripted.proofs.Starting.{fed_nothing}
use Rattle.am_cluster_scripted.proofs.Stepping.{fed_step, from_at, to_at}
use Rattle.am_cluster_scripted.proofs.emissions.links_after.Goals as goal

pub loop-entry-init : goal.loop-entry-init
loop-entry-init c =
    record {
      fed = fed_nothing c.args.scenario.now.plan c.in_ok-links.links.all.items c.in_ok-links.ensures.len c.in_ok-links.ensures.none;
      spared = c.in_ok-links.ensures.spared;
    }

pub add_entry-requires-clause-from : goal.add_entry-requires-clause-from
add_entry-requires-clause-from c =
    from_at (layout_of c.args.scenario.now) c.args.entries.now c.loop-entry.entry-index _ (lawful_layout c.args.scenario.now c.requires.lawful)
    c.requires.history c.loop-entry-test.true

pub add_entry-requires-clause-to : goal.add_entry-requires-clause-to
add_entry-requires-clause-to c =
    to_at (layout_of c.args.scenario.now) c.args.entries.now c.loop-entry.entry-index _ (lawful_layout c.args.scenario.now c.requires.lawful) c.requires.history
    c.loop-entry-test.true

pub loop-entry-preserved : goal.loop-entry-preserved
loop-entry-preserved c =
    record {
      fed =
          fed_step (layout_of c.args.scenario.now) c.args.scenario.now.plan _ c.args.entries.now c.loop-entry.entry-index _ _ _
          (lawful_layout c.args.scenario.now c.requires.lawful) c.requires.history c.loop-entry-test.true c.loop-entry.invariant.fed
          c.requires.plan
          c.in_ok-add_entry.ensures.fed;
      spared = c.add_entry.ensures.spared;
    }
