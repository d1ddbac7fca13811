use Rattle.std.proofs.Common.{◌-◌, take, drop, length, sym}
use Rattle.am_lab_reasons.proofs.Reported.{cut_behind}
use Rattle.am_lab_drawings.proofs.Picturing.{shown_behind}
use Rattle.am_lab_drawings.proofs.view.messages.message_picture.Goals as goal

pub returns-in-Ok : goal.returns-in-Ok
returns-in-Ok c =
    let text = c.args.text.now in
    let place = c.in-Some.place in
    shown_behind c.args.form text c.args.serial c.requires.checked place (take (length text - place) (drop place text)) c.in-Ok.scenario
    (sym c.in-Some.ensures.place) (cut_behind text place) c.in-Ok.ensures.exact c.message_in.result c.message_in.ensures
