use Rattle.am_lab_reasons.proofs.Parted.{report_in}
use Rattle.am_lab_drawings.proofs.Showing.{shows_parts}
use Rattle.am_lab_drawings.proofs.view.picture.Goals as goal

pub picture_in-requires-clause-report : goal.picture_in-requires-clause-report
picture_in-requires-clause-report c =
    let p = c.in-Ok in (c.args.form, report_in c.args.form c.args.text.now c.requires.checked p.scenario p.bytes.now p.ensures.parts)

pub returns-in-Ok : goal.returns-in-Ok
returns-in-Ok c =
    let a = c.args in
    let p = c.in-Ok in
    shows_parts a.form a.text.now a.part p.scenario p.bytes.now c.picture_in.result p.ensures.parts
    (c.picture_in.ensures a.form (report_in a.form a.text.now c.requires.checked p.scenario p.bytes.now p.ensures.parts))
