use Rattle.am_model_scripts.specs.Layout.{layout_of}
use Rattle.am_cluster_scripted.specs.EndMarks.{told_arrival, told_front, told_missed, told_reply}
use Rattle.am_machine.proofs.Placed.{IsPlaced}
use Rattle.am_cluster_scripted.proofs.EndMarked.{places_few, set_again, told_here}
use Rattle.am_cluster_scripted.proofs.Looking.{seen_in}
use Rattle.am_cluster_scripted.proofs.end_marks.mark_place.Goals as goal

pub set-requires : goal.set-requires
set-requires c = places_few c.args.scenario.now c.args.place c.requires.parts.lawful c.requires.place

pub set-requires-2 : goal.set-requires-2
set-requires-2 c = places_few c.args.scenario.now c.args.place c.requires.parts.lawful c.requires.place

pub set-requires-3 : goal.set-requires-3
set-requires-3 c = places_few c.args.scenario.now c.args.place c.requires.parts.lawful c.requires.place

pub set-requires-4 : goal.set-requires-4
set-requires-4 c = places_few c.args.scenario.now c.args.place c.requires.parts.lawful c.requires.place

pub returns : goal.returns
returns c =
    let s = c.args.scenario.now in
    let past = c.args.cluster.now.journal in
    let k = c.args.place in
    let one = c.end_at-end.result.now in
    let seen : IsPlaced (layout_of s) past k one = seen_in s c.args.cluster.now k one c.requires.parts.layout c.end_at-end.ensures.setting
    c.end_at-end.ensures.state in
    record {
      missed = set_again told_missed (layout_of s) past k c.args.marks.now.missed c.set.new.self c.is_missed.result
          (told_here told_missed (layout_of s) past k one c.is_missed.result seen c.is_missed.ensures) c.set.ensures;
      replies = set_again told_reply (layout_of s) past k c.args.marks.now.replies c.set-2.new.self c.has_reply_of.result
          (told_here told_reply (layout_of s) past k one c.has_reply_of.result seen c.has_reply_of.ensures) c.set-2.ensures;
      fronts = set_again told_front (layout_of s) past k c.args.marks.now.fronts c.set-3.new.self c.has_front_of.result
          (told_here told_front (layout_of s) past k one c.has_front_of.result seen c.has_front_of.ensures) c.set-3.ensures;
      arrivals = set_again told_arrival (layout_of s) past k c.args.marks.now.arrivals c.set-4.new.self c.has_arrivals_of.result
          (told_here told_arrival (layout_of s) past k one c.has_arrivals_of.result seen c.has_arrivals_of.ensures) c.set-4.ensures;
    }
