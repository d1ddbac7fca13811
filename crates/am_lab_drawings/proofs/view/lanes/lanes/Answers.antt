use Rattle.std.proofs.Common.{◌+◌, ◌-◌, List, [], length, take, drop, refl, sym, ap, ◌∙◌, subst, arith}
use Rattle.am_model.specs.History.{EachAfter}
use Rattle.am_model.specs.Layout.{Layout}
use Rattle.am_office_entries.specs.declared.Entry.{Entry}
use Rattle.am_scenario_types.specs.Lists.{ScenarioLists}
use Rattle.am_model_scripts.specs.Layout.{layout_of}
use Rattle.am_lab_reasons.specs.Journal.Lines.{IsMadeAgain}
use Rattle.am_lab_picture.specs.Lanes.{LaneTracked}
use Rattle.am_lab_drawings.specs.View.Standings.{all_ended}
use Rattle.am_lab_drawings.proofs.Following.{again_between, again_take, lanes_made}
use Rattle.am_lab_drawings.proofs.Passing.{written_back}
use Rattle.am_lab_drawings.proofs.view.lanes.lanes.Goals as goal

pub tracks_before-requires-clause-again : goal.tracks_before-requires-clause-again
tracks_before-requires-clause-again c =
    let n = c.args.lines.first - 3 in
    subst (λ (l : Layout). EachAfter (IsMadeAgain l) [] (take n c.args.entries.now)) (sym c.in_ok-cluster.ensures.layout)
    (again_take (layout_of c.args.scenario.now) [] c.args.entries.now n c.requires.again)

pub follow-requires-clause-again : goal.follow-requires-clause-again
follow-requires-clause-again c =
    let n = c.args.lines.first - 3 in
    let m = n + c.args.lines.count - n in
    let shown = take m (drop n c.args.entries.now) in
    subst (λ (l : Layout). EachAfter (IsMadeAgain l) c.tracks_before.new.cluster.journal shown) (sym (c.in_ok-tracks.ensures.layout
    ∙ c.in_ok-cluster.ensures.layout))
    (subst (λ (j : List Entry). EachAfter (IsMadeAgain (layout_of c.args.scenario.now)) j shown) (sym c.in_ok-tracks.ensures.journal)
    (again_between (layout_of c.args.scenario.now) c.args.entries.now n m c.requires.again))

pub returns : goal.returns
returns c =
    let first = c.args.lines.first in
    let count = c.args.lines.count in
    let n = first - 3 in
    let m = n + count - n in
    let low = c.requires.first in
    let within = c.requires.within in
    lanes_made (layout_of c.args.scenario.now) c.tracks_before.new.cluster.layout (first - 1) (first + count) n count m c.args.entries.now
    c.tracks_before.new.cluster.journal c.args.scenario.now.ends
    c.deref-2.result.now c.follow.new.tracks c.in_ok-made.made.items (c.in_ok-tracks.ensures.layout
    ∙ c.in_ok-cluster.ensures.layout) refl c.in_ok-tracks.ensures.journal (omega arith) (omega (arith, low))
    (omega (arith, low, within)) c.in_ok-follow.ensures.followed (c.deref-2.ensures.value ∙ ap (λ (s : ScenarioLists). s.ends) c.scenario.view_is)
    (c.in_ok-made.ensures ∙ ap (λ (ts : List LaneTracked). all_ended (first + count) ts c.deref-2.result.now) (c.deref.ensures.value
    ∙ written_back c.in_ok-tracks.tracks.len c.follow.new.tracks (drop (length c.follow.new.tracks) c.in_ok-tracks.tracks.items) (c.follow.auto.tracks
    ∙ c.deref_mut.ensures.len)))
