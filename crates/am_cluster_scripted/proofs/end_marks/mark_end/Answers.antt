use Rattle.std.proofs.Common.{◌≡◌, ℕ, Some, None, List, subst, rules}
use Rattle.std.specs.Prelude.{◌==◌, slice_get}
use Rattle.std.proofs.lemmas.Option.{slice_get_within}
use Rattle.am_scenario_types.specs.declared.parts.EndLine.{EndLine}
use Rattle.am_model_scripts.specs.Layout.{layout_of}
use Rattle.am_cluster_scripted.specs.EndMarks.{HasPlace, is_end}
use Rattle.am_cluster_scripted.proofs.EndMarked.{all_alike, end_nowhere, end_there, none_again}
use Rattle.am_cluster_scripted.proofs.end_marks.mark_end.Goals as goal

pub mark_place-requires-clause-place : goal.mark_place-requires-clause-place
mark_place-requires-clause-place c =
    let same : c.deref.result.now ≡ c.args.scenario.now.ends = search rules in
    let found : HasPlace c.args.scenario.now.ends c.args.id (Some c.in-Some.place) =
    subst (λ (l : List EndLine). HasPlace l c.args.id (Some c.in-Some.place)) same c.in-Some.ensures in
    slice_get_within c.args.scenario.now.ends c.in-Some.place found.0 found.1

pub returns-in-Some : goal.returns-in-Some
returns-in-Some c =
    let s = c.args.scenario.now in
    let same : c.deref.result.now ≡ c.args.scenario.now.ends = search rules in
    all_alike (λ (k : ℕ). k == c.in-Some.place) (λ (k : ℕ). is_end (Some c.args.id) (slice_get (layout_of s).ends k)) (layout_of s) c.args.cluster.now.journal
    c.args.marks.now c.mark_place.new.marks
    (end_there s c.args.id c.in-Some.place c.requires.lawful (subst (λ (l : List EndLine). HasPlace l c.args.id (Some c.in-Some.place)) same c.in-Some.ensures))
    c.mark_place.ensures

pub returns-in-None : goal.returns-in-None
returns-in-None c =
    let s = c.args.scenario.now in
    let same : c.deref.result.now ≡ c.args.scenario.now.ends = search rules in
    none_again (layout_of s) c.args.cluster.now.journal c.args.marks.now (λ (k : ℕ). is_end (Some c.args.id) (slice_get (layout_of s).ends k))
    (end_nowhere s c.args.id (subst (λ (l : List EndLine). HasPlace l c.args.id None) same c.in-None.ensures))
