use Rattle.std.proofs.Common.{◌-◌, take, drop, length, sym}
use Rattle.std.specs.Prelude.{Err}
use Rattle.am_check.specs.declared.faults.CheckStop.TheVariants as Stops
use Rattle.am_lab_reasons.proofs.StoppedDue.{answers_behind, cut_behind, told_all}
use Rattle.am_lab_reasons.proofs.due.due.Goals as goal

pub due_behind-requires-clause-stopped : goal.due_behind-requires-clause-stopped
due_behind-requires-clause-stopped c =
    let a = c.args in
    let text = a.text.now in
    let place = c.in-Some.place in
    answers_behind a.form text place (take (length text - place) (drop place text)) (Err (Stops.Fault a.line a.what)) (sym c.in-Some.ensures.place)
    (cut_behind text place) c.requires.stopped

pub returns-in-Some : goal.returns-in-Some
returns-in-Some c =
    let a = c.args in
    let text = a.text.now in
    let place = c.in-Some.place in
    told_all a.form text a.line a.what place (take (length text - place) (drop place text)) c.due_behind.result (sym c.in-Some.ensures.place)
    (cut_behind text place) c.due_behind.ensures
