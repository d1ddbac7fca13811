use Rattle.std.proofs.Common.{[], List, sym, subst}
use Rattle.am_model.specs.History.{EachAfter}
use Rattle.am_model_scripts.specs.Layout.{layout_of}
use Rattle.am_office_entries.specs.declared.Entry.{Entry}
use Rattle.am_lab_reasons.proofs.Reported.{reported}
use Rattle.am_lab_reasons.specs.Journal.Lines.{IsMadeAgain}
use Rattle.am_lab_drawings.proofs.Picturing.{shown_in}
use Rattle.am_lab_drawings.proofs.view.messages.message_in.Goals as goal

pub message_of-requires-clause-again : goal.message_of-requires-clause-again
message_of-requires-clause-again c =
    let form = c.requires.report.0 in
    let r = c.requires.report.1 in
    let t = reported form c.args.scenario.now c.requires.lawful c.args.bytes.now c.requires.few r in
    subst (λ (j : List Entry). EachAfter (IsMadeAgain (layout_of c.args.scenario.now)) [] j) (sym (c.in_ok-journal.ensures.made form r)) t.are.each

pub returns : goal.returns
returns c = λ form r.
    shown_in form c.args.scenario.now c.args.bytes.now c.args.serial r c.in_ok-journal.journal c.message_of.result (c.in_ok-journal.ensures.made form r)
    c.message_of.ensures
