use Rattle.std.proofs.Common.{◌-◌, take, drop, length, sym}
use Rattle.am_lab_reasons.proofs.Reported.{cut_behind}
use Rattle.am_lab_page.proofs.Telling.{changes_of_text, report_is}
use Rattle.am_lab_page.proofs.page.changes.checked_changes.Goals as goal

pub report_changes-requires-clause-report : goal.report_changes-requires-clause-report
report_changes-requires-clause-report c =
    let text = c.args.text.now in
    let place = c.in-Some.place in (
      c.args.form,
      report_is c.args.form text place (take (length text - place) (drop place text)) c.in-Ok.scenario c.requires.checked
          (sym c.in-Some.ensures.place) (cut_behind text place) c.in-Ok.ensures.exact,
    )

pub returns-in-Ok : goal.returns-in-Ok
returns-in-Ok c =
    let text = c.args.text.now in
    let place = c.in-Some.place in
    changes_of_text c.args.form text place (take (length text - place) (drop place text)) c.in-Ok.scenario c.report_changes.result
    (sym c.in-Some.ensures.place) (cut_behind text place) c.in-Ok.ensures.exact c.report_changes.ensures
