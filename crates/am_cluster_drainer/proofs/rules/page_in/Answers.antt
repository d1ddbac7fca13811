use Rattle.std.proofs.Common.{◌∙◌}
use Rattle.std.specs.Prelude.{find}
use Rattle.std.proofs.lemmas.Option.{slice_get_within}
use Rattle.am_model_scripts.specs.Layout.{layout_of}
use Rattle.am_model_scripts.specs.Standings.{is_missed, standings}
use Rattle.am_cluster_drainer.specs.Reads.{head_of}
use Rattle.am_cluster_drainer.proofs.Firsts.{next_not, next_read}
use Rattle.am_cluster_drainer.proofs.Planned.{page_in_some, page_in_none}
use Rattle.am_cluster_drainer.proofs.rules.page_in.Goals as goal

pub returns-in_err-place-clause-turn : goal.returns-in_err-place-clause-turn
returns-in_err-place-clause-turn g c =
    let m = g.M.Drainable in
    let ends = standings (layout_of (m.scenario c.args.machine.now)) (m.journal c.args.machine.now) in
    c.from_residual.ensures ∙ page_in_none (find is_missed ends) (next_not head_of is_missed ends c.in_err-place.ensures)

pub head-head-requires : goal.head-head-requires
head-head-requires g c =
    let m = g.M.Drainable in
    let ends = standings (layout_of (m.scenario c.args.machine.now)) (m.journal c.args.machine.now) in
    slice_get_within ends c.in_ok-place.place c.in_ok-place.ensures.one c.in_ok-place.ensures.at_place

pub returns-clause-turn : goal.returns-clause-turn
returns-clause-turn g c =
    let m = g.M.Drainable in
    let ends = standings (layout_of (m.scenario c.args.machine.now)) (m.journal c.args.machine.now) in
    page_in_some (find is_missed ends) c.head-head.result (next_read head_of is_missed ends c.in_ok-place.place c.head-head.result c.in_ok-place.ensures
    c.head-head.ensures.value)
