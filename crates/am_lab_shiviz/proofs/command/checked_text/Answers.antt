use Rattle.am_lab_reasons.proofs.Parted.{report_in}
use Rattle.am_lab_shiviz.proofs.Told.{told_of_parts}
use Rattle.am_lab_shiviz.proofs.command.checked_text.Goals as goal

pub report_text-requires-clause-report : goal.report_text-requires-clause-report
report_text-requires-clause-report c =
    let p = c.in_ok-scenario in
    (c.args.form, report_in c.args.form c.args.text.now c.requires.checked p.scenario p.bytes.now p.ensures.parts)

pub returns : goal.returns
returns c =
    let p = c.in_ok-scenario in
    told_of_parts c.args.form c.args.text.now p.scenario p.bytes.now c.report_text.result p.ensures.parts c.report_text.ensures
