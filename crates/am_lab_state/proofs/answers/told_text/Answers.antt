use Rattle.std.proofs.Common.{◌-◌, take, drop, length, sym}
use Rattle.am_lab_reasons.proofs.Reported.{cut_behind}
use Rattle.am_lab_state.proofs.Asking.{report_in, told_all}
use Rattle.am_lab_state.proofs.answers.told_text.Goals as goal

pub told_report-requires-clause-report : goal.told_report-requires-clause-report
told_report-requires-clause-report c =
    let text = c.args.text.now in
    let place = c.in-Some.place in
    let behind = take (length text - place) (drop place text) in (
      c.args.form,
      report_in c.args.form text c.requires.checked place behind c.in-Ok.scenario (sym c.in-Some.ensures.place) (cut_behind text place)
          c.in-Ok.ensures.exact,
    )

pub returns-in-Ok : goal.returns-in-Ok
returns-in-Ok c =
    let text = c.args.text.now in
    let place = c.in-Some.place in
    let behind = take (length text - place) (drop place text) in
    told_all c.args.form text c.args.lines c.requires.checked place behind c.in-Ok.scenario (sym c.in-Some.ensures.place) (cut_behind text place)
    c.in-Ok.ensures.exact c.told_report.result c.told_report.ensures
