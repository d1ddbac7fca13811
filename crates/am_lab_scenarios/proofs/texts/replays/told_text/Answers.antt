use Rattle.am_lab_scenarios.proofs.Replaying.{report_is, told_of_text}
use Rattle.am_lab_scenarios.proofs.texts.replays.told_text.Goals as goal

pub told_report-requires-clause-report : goal.told_report-requires-clause-report
told_report-requires-clause-report c =
    let p = c.in_ok-scenario in
    (c.requires.right.journal, report_is c.args.text.now p.scenario p.bytes.now c.requires.right p.ensures.parts)

pub returns : goal.returns
returns c =
    let p = c.in_ok-scenario in told_of_text c.args.text.now p.scenario p.bytes.now c.told_report.result p.ensures.parts c.told_report.ensures
