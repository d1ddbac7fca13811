use Rattle.std.proofs.Common.{List, length, take, sym, ap, ◌∙◌, arith}
use Rattle.std.proofs.lemmas.List.{length-map}
use Rattle.am_model.specs.Layout.{Layout}
use Rattle.am_lab_picture.specs.Lanes.{LaneTracked}
use Rattle.am_lab_drawings.specs.View.Standings.{tracked}
use Rattle.am_lab_drawings.proofs.Following.{again_here, journal_next, keep_next, tracks_next}
use Rattle.am_lab_drawings.proofs.view.lanes.follow.Goals as goal

pub step-requires : goal.step-requires
step-requires c =
    let l = c.loop-entry in
    let a = c.args.cluster.now in
    again_here a.layout l.cluster.layout a.journal c.args.entries.now l.cluster.journal l.entry-index _ l.invariant.layout l.invariant.journal
    c.loop-entry-test.true c.requires.again

pub follow_all-requires-clause-count : goal.follow_all-requires-clause-count
follow_all-requires-clause-count c =
    let l = c.loop-entry in
    let a = c.args.cluster.now in
    ap (λ (ts : List LaneTracked). length ts) l.invariant.tracks
    ∙ length-map a.layout.ends (tracked a.layout c.args.line a.journal (take l.entry-index c.args.entries.now))
    ∙ ap (λ (y : Layout). length y.ends) (sym (c.in_ok-step.ensures.layout ∙ l.invariant.layout))

pub follow_all-requires-clause-keep : goal.follow_all-requires-clause-keep
follow_all-requires-clause-keep c =
    let l = c.loop-entry in
    let a = c.args.cluster.now in
    keep_next a.layout l.cluster.layout c.step.new.cluster.layout a.journal c.args.entries.now l.cluster.journal c.step.new.cluster.journal l.entry-index
    c.args.line _ l.tracks
    l.invariant.layout l.invariant.journal c.in_ok-step.ensures.layout c.in_ok-step.ensures.journal l.invariant.tracks c.laws.ensures.lawful
    c.laws.ensures.history
    (again_here a.layout l.cluster.layout a.journal c.args.entries.now l.cluster.journal l.entry-index _ l.invariant.layout l.invariant.journal
    c.loop-entry-test.true c.requires.again)

pub loop-entry-preserved : goal.loop-entry-preserved
loop-entry-preserved c =
    let l = c.loop-entry in
    let a = c.args.cluster.now in
    let next = l.invariant.next in
    record {
      layout = c.in_ok-step.ensures.layout ∙ l.invariant.layout;
      journal = journal_next a.journal c.args.entries.now l.cluster.journal c.step.new.cluster.journal l.entry-index _ c.loop-entry-test.true
          l.invariant.journal c.in_ok-step.ensures.journal;
      next = omega (arith, next);
      tracks =
          tracks_next a.layout l.cluster.layout c.step.new.cluster.layout a.journal c.args.entries.now l.cluster.journal c.step.new.cluster.journal
          l.entry-index c.args.line l.next _ l.tracks c.follow_all.new.tracks
          c.loop-entry-test.true next l.invariant.layout l.invariant.journal c.in_ok-step.ensures.layout c.in_ok-step.ensures.journal l.invariant.tracks
          c.in_ok-follow_all.ensures;
    }
