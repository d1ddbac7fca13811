use Rattle.std.proofs.Common.{◌∙◌}
use Rattle.std.proofs.lemmas.Option.{slice_get_within}
use Rattle.am_model_scripts.specs.Layout.{layout_of}
use Rattle.am_model_scripts.specs.Standings.{standings}
use Rattle.am_cluster_drainer.specs.Firsts.{shows}
use Rattle.am_cluster_drainer.specs.Reads.{mail_of}
use Rattle.am_cluster_drainer.proofs.Firsts.{next_not, next_read}
use Rattle.am_cluster_drainer.proofs.rules.first_mail.Goals as goal

pub returns-in_err-place-clause-value : goal.returns-in_err-place-clause-value
returns-in_err-place-clause-value g c =
    let m = g.M.Drainable in
    let ends = standings (layout_of (m.scenario c.args.machine.now)) (m.journal c.args.machine.now) in
    c.from_residual.ensures ∙ next_not mail_of (shows c.args.test) ends c.in_err-place.ensures

pub mail-requires-clause-index : goal.mail-requires-clause-index
mail-requires-clause-index g c =
    let m = g.M.Drainable in
    let ends = standings (layout_of (m.scenario c.args.machine.now)) (m.journal c.args.machine.now) in
    slice_get_within ends c.in_ok-place.place c.in_ok-place.ensures.one c.in_ok-place.ensures.at_place

pub returns-clause-value : goal.returns-clause-value
returns-clause-value g c =
    let m = g.M.Drainable in
    let ends = standings (layout_of (m.scenario c.args.machine.now)) (m.journal c.args.machine.now) in
    next_read mail_of (shows c.args.test) ends c.in_ok-place.place c.mail.result c.in_ok-place.ensures c.mail.ensures.value
